use Rattle.std.proofs.Common.{◌+◌, ◌*◌, length}
use Rattle.flow_edges.proofs.splits.known.+value_by_tests.Given as goal

abbrev pub decreases-value_by_tests : goal.decreases-value_by_tests
decreases-value_by_tests l = 2 * length l.tests.now

abbrev pub decreases-value_by_tests_from : goal.decreases-value_by_tests_from
decreases-value_by_tests_from l = 2 * length l.rest.now + 1
