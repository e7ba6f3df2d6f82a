use Rattle.std.proofs.Common.{length}
use Rattle.flow_edges.proofs.action.+same_results.Given as goal

-- each call is for the elements after the first one
abbrev pub decreases-same_results : goal.decreases-same_results
decreases-same_results l = length l.left.now
