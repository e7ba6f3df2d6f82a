use Rattle.gkat_front.proofs.GuardedForms.{guarded_by_form}
use Rattle.gkat_front.proofs.guards.guarded.Goals as goal

pub returns : goal.returns
returns c = guarded_by_form _ _ c.is_guarded.ensures
