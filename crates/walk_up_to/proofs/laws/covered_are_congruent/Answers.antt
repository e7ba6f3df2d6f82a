use Rattle.walk_pairs.proofs.Covered.{covered_congruent}
use Rattle.walk_up_to.proofs.laws.covered_are_congruent.Goals as goal

pub returns : goal.returns
returns c = covered_congruent
