use Rattle.std.proofs.Common.{◌+◌, ◌*◌, length}
use Rattle.flow_abstraction.proofs.facts.+add_facts.Given as goal

abbrev pub decreases-add_facts : goal.decreases-add_facts
decreases-add_facts l = 2 * length l.firsts.now

abbrev pub decreases-add_facts_from : goal.decreases-add_facts_from
decreases-add_facts_from l = 2 * length l.rest.now + 1
