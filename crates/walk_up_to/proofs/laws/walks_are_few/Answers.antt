use Rattle.walk_up_to.proofs.Endings.{walk_bounds}
use Rattle.walk_up_to.proofs.laws.walks_are_few.Goals as goal

pub returns : goal.returns
returns c = walk_bounds
