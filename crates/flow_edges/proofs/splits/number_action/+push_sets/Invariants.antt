use Rattle.std.proofs.Common.{◌+◌, ◌*◌, length}
use Rattle.flow_edges.proofs.splits.number_action.+push_sets.Given as goal

abbrev pub decreases-push_sets : goal.decreases-push_sets
decreases-push_sets l = 3 * length l.own.now

abbrev pub decreases-push_sets_of : goal.decreases-push_sets_of
decreases-push_sets_of l = 3 * length l.others.now + 2

abbrev pub decreases-push_sets_then : goal.decreases-push_sets_then
decreases-push_sets_then l = 3 * length l.others.now + 1
