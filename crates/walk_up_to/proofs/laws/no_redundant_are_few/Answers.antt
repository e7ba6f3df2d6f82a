use Rattle.walk_up_to.proofs.NoRedundancy.{no_redundant_bounds}
use Rattle.walk_up_to.proofs.laws.no_redundant_are_few.Goals as goal

pub returns : goal.returns
returns c = no_redundant_bounds
