use Rattle.lrat_checker.proofs.Soundness.{accepted_unsatisfiable}
use Rattle.lrat_checker.proofs.laws.accepted_are_unsatisfiable.Goals as goal

pub returns : goal.returns
returns c = accepted_unsatisfiable
