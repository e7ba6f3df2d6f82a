use Rattle.flow_problem.proofs.Agreements.{same_agree}
use Rattle.flow_problem.proofs.WholeProblems.{problem_is_about}
use Rattle.flow_problem.proofs.laws.marked_problems_agree.Goals as goal

pub returns : goal.returns
returns c q marks p has e = same_agree q.pair p (problem_is_about q marks p has e)
