use Rattle.std.proofs.Common.{rules}
use Rattle.std.proofs.lemmas.Result.{IfOk-equal}
use Rattle.kat_model.proofs.CappedTables.{with_all_new_within-append}
use Rattle.abstraction.proofs.comparisons.+add_cond.Goals as goal

pub returns-in_ok-add_cond-in-And : goal.returns-in_ok-add_cond-in-And
returns-in_ok-add_cond-in-And t c = search (rules, IfOk-equal, with_all_new_within-append)
