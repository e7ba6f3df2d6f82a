use Rattle.walk_pairs.proofs.Covered.{congruent_covered}
use Rattle.walk_up_to.proofs.laws.congruent_are_covered.Goals as goal

pub returns : goal.returns
returns c = congruent_covered
