use Rattle.std.proofs.Common.{◌≡◌, length}
use Rattle.flow_matches.specs.Working.SameNodes.{same_nodes}
use Rattle.flow_matches.proofs.same.are_same_nodes.Given as goal

-- the nodes that are left decide
abbrev pub invariant-nodes : goal.invariant-nodes
invariant-nodes l = same_nodes l.pending l.rest l.others ≡ same_nodes l.count l.left l.right

abbrev pub decreases-nodes : goal.decreases-nodes
decreases-nodes l = length l.rest
