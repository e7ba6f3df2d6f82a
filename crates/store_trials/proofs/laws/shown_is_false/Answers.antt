use Rattle.store_trials.proofs.FalseGoals.{shown_false}
use Rattle.store_trials.proofs.laws.shown_is_false.Goals as goal

pub returns : goal.returns
returns c = shown_false
