use Rattle.flow_model.proofs.Determined.{returns_one, returns_unstuck}
use Rattle.flow_model.proofs.laws.runs_are_determined.Goals as goal

pub returns-clause-one : goal.returns-clause-one
returns-clause-one c = returns_one

pub returns-clause-never_both : goal.returns-clause-never_both
returns-clause-never_both c = returns_unstuck
