use Rattle.std.proofs.Common.{length}
use Rattle.flow_edges.proofs.action.+same_sets.Given as goal

-- each call is for the elements after the first one
abbrev pub decreases-same_sets : goal.decreases-same_sets
decreases-same_sets l = length l.left.now
