use Rattle.flow_problem.proofs.Agreements.{same_agree}
use Rattle.flow_problem.proofs.laws.same_sides_agree.Goals as goal

pub returns : goal.returns
returns c = same_agree
