use Rattle.std.proofs.Common.{refl}
use Rattle.abstraction.proofs.flows.assignment_action.Goals as goal

pub returns : goal.returns
returns g c = rw (c.unwrap_or.ensures, c.action_number.ensures, c.in_ok-assigned.ensures, c.width.ensures) refl
