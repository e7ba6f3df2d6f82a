use Rattle.optimiser_steps.proofs.LogMeanings.{logs_keep}
use Rattle.optimiser_steps.proofs.laws.logs_keep_meaning.Goals as goal

pub returns : goal.returns
returns c f p q log range is = logs_keep f p q log range is
