use Rattle.std.proofs.Common.{◌+◌, ◌*◌, length}
use Rattle.flow_edges.proofs.splits.number_action.+results_have.Given as goal

abbrev pub decreases-results_have : goal.decreases-results_have
decreases-results_have l = 2 * length l.results.now

abbrev pub decreases-results_have_from : goal.decreases-results_have_from
decreases-results_have_from l = 2 * length l.rest.now + 1
