use Rattle.std.proofs.Common.{◌+◌, ◌*◌, length}
use Rattle.flow_ways.proofs.way.+push_conds.Given as goal

abbrev pub decreases-push_conds : goal.decreases-push_conds
decreases-push_conds l = 2 * length l.conds.now

abbrev pub decreases-push_conds_from : goal.decreases-push_conds_from
decreases-push_conds_from l = 2 * length l.rest.now + 1
