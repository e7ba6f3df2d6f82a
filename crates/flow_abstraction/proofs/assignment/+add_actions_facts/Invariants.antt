use Rattle.std.proofs.Common.{◌+◌, ◌*◌, length}
use Rattle.flow_abstraction.proofs.assignment.+add_actions_facts.Given as goal

abbrev pub decreases-add_actions_facts : goal.decreases-add_actions_facts
decreases-add_actions_facts l = 2 * length l.actions.now

abbrev pub decreases-add_actions_facts_from : goal.decreases-add_actions_facts_from
decreases-add_actions_facts_from l = 2 * length l.rest.now + 1
