use Rattle.std.proofs.Common.{◌+◌, ◌*◌, length}
use Rattle.flow_edges.proofs.splits.number_action.+sets_have.Given as goal

abbrev pub decreases-sets_have : goal.decreases-sets_have
decreases-sets_have l = 2 * length l.sets.now

abbrev pub decreases-sets_have_from : goal.decreases-sets_have_from
decreases-sets_have_from l = 2 * length l.rest.now + 1
