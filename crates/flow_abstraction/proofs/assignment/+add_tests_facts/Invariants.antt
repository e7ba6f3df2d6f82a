use Rattle.std.proofs.Common.{◌+◌, ◌*◌, length}
use Rattle.flow_abstraction.proofs.assignment.+add_tests_facts.Given as goal

abbrev pub decreases-add_tests_facts : goal.decreases-add_tests_facts
decreases-add_tests_facts l = 2 * length l.tests.now

abbrev pub decreases-add_tests_facts_from : goal.decreases-add_tests_facts_from
decreases-add_tests_facts_from l = 2 * length l.rest.now + 1
