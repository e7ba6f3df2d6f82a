use Rattle.std.proofs.Common.{◌+◌, ◌*◌, length}
use Rattle.flow_places.proofs.reads.+mark_conds.Given as goal

abbrev pub decreases-mark_conds : goal.decreases-mark_conds
decreases-mark_conds l = 2 * length l.nodes.now

abbrev pub decreases-mark_conds_from : goal.decreases-mark_conds_from
decreases-mark_conds_from l = 2 * length l.rest.now + 1
