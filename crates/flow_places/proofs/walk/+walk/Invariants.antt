use Rattle.std.proofs.Common.{◌+◌, ◌*◌}
use Rattle.flow_places.proofs.walk.+walk.Given as goal

abbrev pub decreases-walk_from : goal.decreases-walk_from
decreases-walk_from l = 4 * l.depth

abbrev pub decreases-walk_into : goal.decreases-walk_into
decreases-walk_into l = 4 * l.depth + 3

abbrev pub decreases-walk_jump : goal.decreases-walk_jump
decreases-walk_jump l = 4 * l.depth + 2

abbrev pub decreases-walk_on : goal.decreases-walk_on
decreases-walk_on l = 4 * l.depth + 1
