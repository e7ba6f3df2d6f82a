use Rattle.walk_up_to.proofs.Concise.{walk_concise}
use Rattle.walk_up_to.proofs.laws.finished_are_concise.Goals as goal

pub returns : goal.returns
returns c = walk_concise
