use Rattle.kat_model.proofs.Faults.{faultless_is_problem}
use Rattle.kat_model.proofs.problem.Problem.tests.Goals as goal

pub returns-clause-within : goal.returns-clause-within
returns-clause-within c = rw (← c.self.view_is) (faultless_is_problem _ c.self.invariant)
