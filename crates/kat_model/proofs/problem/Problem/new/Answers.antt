use Rattle.std.proofs.Common.{arith}
use Rattle.std.proofs.lemmas.Grind.{common_steps}
use Rattle.kat_model.proofs.Faults.{faultless_is_problem}
use Rattle.kat_model.proofs.problem.Problem.new.Goals as goal

pub returns-clause-within : goal.returns-clause-within
returns-clause-within c = faultless_is_problem _ (grind (arith, common_steps))
