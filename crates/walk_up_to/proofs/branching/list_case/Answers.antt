use Rattle.std.proofs.Common.{refl}
use Rattle.walk_up_to.proofs.branching.list_case.Goals as goal

pub returns-in_err-left-clause-universal : goal.returns-in_err-left-clause-universal
returns-in_err-left-clause-universal c = refl

pub returns-in_err-left-clause-count : goal.returns-in_err-left-clause-count
returns-in_err-left-clause-count c = refl

pub returns-in_err-left-clause-limit : goal.returns-in_err-left-clause-limit
returns-in_err-left-clause-limit c = refl

pub returns-in_err-right-clause-universal : goal.returns-in_err-right-clause-universal
returns-in_err-right-clause-universal c = refl

pub returns-in_err-right-clause-count : goal.returns-in_err-right-clause-count
returns-in_err-right-clause-count c = refl

pub returns-in_err-right-clause-limit : goal.returns-in_err-right-clause-limit
returns-in_err-right-clause-limit c = refl

pub returns-in_err-atom-clause-universal : goal.returns-in_err-atom-clause-universal
returns-in_err-atom-clause-universal c = refl

pub returns-in_err-atom-clause-count : goal.returns-in_err-atom-clause-count
returns-in_err-atom-clause-count c = refl

pub returns-in_err-atom-clause-limit : goal.returns-in_err-atom-clause-limit
returns-in_err-atom-clause-limit c = refl

pub returns-clause-universal : goal.returns-clause-universal
returns-clause-universal c = c.list.ensures.universal

pub returns-clause-count : goal.returns-clause-count
returns-clause-count c = c.list.ensures.count

pub returns-clause-limit : goal.returns-clause-limit
returns-clause-limit c = c.list.ensures.limit
