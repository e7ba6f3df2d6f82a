use Rattle.flow_syntax.proofs.Leading.{one_derivation, one_fault, not_both}
use Rattle.flow_syntax.proofs.Ending.{some_end}
use Rattle.flow_syntax.proofs.laws.one_derivation.Goals as goal

pub returns-clause-steps : goal.returns-clause-steps
returns-clause-steps c = one_derivation

pub returns-clause-faults : goal.returns-clause-faults
returns-clause-faults c = one_fault

pub returns-clause-either : goal.returns-clause-either
returns-clause-either c = not_both

pub returns-clause-some : goal.returns-clause-some
returns-clause-some c = some_end
