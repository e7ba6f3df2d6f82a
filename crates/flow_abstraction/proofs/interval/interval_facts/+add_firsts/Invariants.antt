use Rattle.std.proofs.Common.{◌+◌, ◌*◌, length}
use Rattle.flow_abstraction.proofs.interval.interval_facts.+add_firsts.Given as goal

abbrev pub decreases-add_firsts : goal.decreases-add_firsts
decreases-add_firsts l = 2 * length l.intervals.now

abbrev pub decreases-add_firsts_from : goal.decreases-add_firsts_from
decreases-add_firsts_from l = 2 * length l.rest.now + 1
