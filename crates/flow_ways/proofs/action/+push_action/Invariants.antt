use Rattle.std.proofs.Common.{◌+◌, ◌*◌, length}
use Rattle.flow_ways.proofs.action.+push_action.Given as goal

abbrev pub decreases-push_action : goal.decreases-push_action
decreases-push_action l = 3 * length l.sorts.now

abbrev pub decreases-push_action_of : goal.decreases-push_action_of
decreases-push_action_of l = 3 * length l.others.now + 2

abbrev pub decreases-push_action_then : goal.decreases-push_action_then
decreases-push_action_then l = 3 * length l.others.now + 1
