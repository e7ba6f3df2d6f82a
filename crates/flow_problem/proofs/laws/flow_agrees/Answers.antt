use Rattle.flow_problem.proofs.Agreements.{same_agree}
use Rattle.flow_problem.proofs.PlacedGraphs.{flow_is_about}
use Rattle.flow_problem.proofs.laws.flow_agrees.Goals as goal

pub returns : goal.returns
returns c q p pair problem = same_agree q.pair p (flow_is_about q p pair problem)
