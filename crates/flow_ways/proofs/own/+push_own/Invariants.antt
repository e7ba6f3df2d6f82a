use Rattle.std.proofs.Common.{◌+◌, ◌*◌, length}
use Rattle.flow_ways.proofs.own.+push_own.Given as goal

abbrev pub decreases-push_own : goal.decreases-push_own
decreases-push_own l = 2 * length l.sorts.now

abbrev pub decreases-push_own_from : goal.decreases-push_own_from
decreases-push_own_from l = 2 * length l.rest.now + 1
