use Rattle.std.proofs.Common.{◌+◌, ◌*◌, length}
use Rattle.flow_abstraction.proofs.interval.interval_facts.+add_seconds.Given as goal

abbrev pub decreases-add_seconds : goal.decreases-add_seconds
decreases-add_seconds l = 2 * length l.intervals.now

abbrev pub decreases-add_seconds_from : goal.decreases-add_seconds_from
decreases-add_seconds_from l = 2 * length l.rest.now + 1
