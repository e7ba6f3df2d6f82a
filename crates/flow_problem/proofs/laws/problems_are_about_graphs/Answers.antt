use Rattle.flow_problem.proofs.WholeProblems.{problem_is_about}
use Rattle.flow_problem.proofs.laws.problems_are_about_graphs.Goals as goal

pub returns : goal.returns
returns c = problem_is_about
