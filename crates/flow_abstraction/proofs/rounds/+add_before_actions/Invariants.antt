use Rattle.std.proofs.Common.{◌+◌, ◌*◌, length}
use Rattle.flow_abstraction.proofs.rounds.+add_before_actions.Given as goal

abbrev pub decreases-add_before_actions : goal.decreases-add_before_actions
decreases-add_before_actions l = 2 * length l.actions.now

abbrev pub decreases-add_before_actions_from : goal.decreases-add_before_actions_from
decreases-add_before_actions_from l = 2 * length l.rest.now + 1
