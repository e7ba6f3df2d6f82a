use Rattle.std.proofs.Common.{◌+◌, ◌*◌, length}
use Rattle.flow_abstraction.proofs.facts.+add_order_facts.Given as goal

abbrev pub decreases-add_order_facts : goal.decreases-add_order_facts
decreases-add_order_facts l = 2 * length l.tests.now

abbrev pub decreases-add_order_facts_from : goal.decreases-add_order_facts_from
decreases-add_order_facts_from l = 2 * length l.rest.now + 1
