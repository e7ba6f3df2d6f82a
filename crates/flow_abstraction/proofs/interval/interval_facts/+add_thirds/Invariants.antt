use Rattle.std.proofs.Common.{◌+◌, ◌*◌, length}
use Rattle.flow_abstraction.proofs.interval.interval_facts.+add_thirds.Given as goal

abbrev pub decreases-add_thirds : goal.decreases-add_thirds
decreases-add_thirds l = 2 * length l.intervals.now

abbrev pub decreases-add_thirds_from : goal.decreases-add_thirds_from
decreases-add_thirds_from l = 2 * length l.rest.now + 1
