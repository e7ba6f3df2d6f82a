use Rattle.std.proofs.Common.{length, arith}
use Rattle.walk_up_to.proofs.Endings.{walk_accepted, walk_same}
use Rattle.walk_up_to.proofs.laws.finished_are_accepted.Goals as goal

pub returns : goal.returns
returns c q es walk = (
  walk_accepted q es (length es) walk (omega arith),
  walk_same q es (length es) walk (omega arith),
)
