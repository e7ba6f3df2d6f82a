use Rattle.std.proofs.Common.{◌+◌, ◌*◌, length}
use Rattle.flow_abstraction.proofs.facts.+add_three_ways.Given as goal

abbrev pub decreases-add_three_ways : goal.decreases-add_three_ways
decreases-add_three_ways l = 2 * length l.others.now

abbrev pub decreases-add_three_ways_from : goal.decreases-add_three_ways_from
decreases-add_three_ways_from l = 2 * length l.rest.now + 1
