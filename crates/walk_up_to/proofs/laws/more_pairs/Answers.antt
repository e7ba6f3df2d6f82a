use Rattle.walk_up_to.proofs.MorePairs.{congruent_front}
use Rattle.walk_up_to.proofs.laws.more_pairs.Goals as goal

pub returns : goal.returns
returns c = congruent_front
