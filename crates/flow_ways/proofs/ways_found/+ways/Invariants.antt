use Rattle.std.proofs.Common.{◌+◌, ◌*◌}
use Rattle.flow_ways.proofs.ways_found.+ways.Given as goal

abbrev pub decreases-ways_from : goal.decreases-ways_from
decreases-ways_from l = 7 * l.depth

abbrev pub decreases-ways_on : goal.decreases-ways_on
decreases-ways_on l = 7 * l.depth + 1

abbrev pub decreases-ways_under : goal.decreases-ways_under
decreases-ways_under l = 7 * l.depth + 2

abbrev pub decreases-ways_aside : goal.decreases-ways_aside
decreases-ways_aside l = 7 * l.depth + 3

abbrev pub decreases-ways_of_branch : goal.decreases-ways_of_branch
decreases-ways_of_branch l = 7 * l.depth + 4

abbrev pub decreases-ways_of_jump : goal.decreases-ways_of_jump
decreases-ways_of_jump l = 7 * l.depth + 5

abbrev pub decreases-ways_through : goal.decreases-ways_through
decreases-ways_through l = 7 * l.depth + 6
