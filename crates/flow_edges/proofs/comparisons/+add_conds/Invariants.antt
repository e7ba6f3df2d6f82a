use Rattle.std.proofs.Common.{◌+◌, ◌*◌, length}
use Rattle.flow_edges.proofs.comparisons.+add_conds.Given as goal

abbrev pub decreases-add_conds : goal.decreases-add_conds
decreases-add_conds l = 2 * length l.conds.now

abbrev pub decreases-add_conds_from : goal.decreases-add_conds_from
decreases-add_conds_from l = 2 * length l.rest.now + 1
