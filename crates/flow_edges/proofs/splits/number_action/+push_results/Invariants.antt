use Rattle.std.proofs.Common.{◌+◌, ◌*◌, length}
use Rattle.flow_edges.proofs.splits.number_action.+push_results.Given as goal

abbrev pub decreases-push_results : goal.decreases-push_results
decreases-push_results l = 2 * length l.results.now

abbrev pub decreases-push_results_from : goal.decreases-push_results_from
decreases-push_results_from l = 2 * length l.rest.now + 1
