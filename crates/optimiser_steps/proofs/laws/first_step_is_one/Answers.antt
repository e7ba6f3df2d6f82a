use Rattle.optimiser_steps.proofs.OneFirstStep.{first_step_is_one_lem}
use Rattle.optimiser_steps.proofs.laws.first_step_is_one.Goals as goal

pub returns : goal.returns
returns c f p q r line other a b = first_step_is_one_lem f p q r line other a b
