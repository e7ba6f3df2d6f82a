use Rattle.kat_model.proofs.Faults.{faultless_is_problem, problem_has_no_fault}
use Rattle.kat_model.proofs.laws.faultless_are_problems.Goals as goal

pub returns : goal.returns
returns c q = (faultless_is_problem q, problem_has_no_fault q)
