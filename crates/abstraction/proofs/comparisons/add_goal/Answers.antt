use Rattle.std.proofs.Common.{rules}
use Rattle.std.proofs.lemmas.Result.{IfOk-equal}
use Rattle.kat_model.proofs.CappedTables.{with_all_new_within-append}
use Rattle.abstraction.proofs.comparisons.add_goal.Goals as goal

pub returns-in_ok-add_side-in-Equal : goal.returns-in_ok-add_side-in-Equal
returns-in_ok-add_side-in-Equal c = search (rules, IfOk-equal, with_all_new_within-append)

pub returns-in_ok-add_side-in-Triple : goal.returns-in_ok-add_side-in-Triple
returns-in_ok-add_side-in-Triple c = search (rules, IfOk-equal, with_all_new_within-append)
