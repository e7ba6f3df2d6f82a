use Rattle.std.proofs.Common.{◌+◌, ◌*◌, length}
use Rattle.flow_edges.proofs.splits.+split_by.Given as goal

abbrev pub decreases-split_by : goal.decreases-split_by
decreases-split_by l = 2 * length l.tests.now

abbrev pub decreases-split_by_from : goal.decreases-split_by_from
decreases-split_by_from l = 2 * length l.rest.now + 1
