use Rattle.walk_under.proofs.Few.{walk_few}
use Rattle.walk_under.proofs.laws.walks_are_few.Goals as goal

pub returns : goal.returns
returns c = walk_few
