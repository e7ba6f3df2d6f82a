use Rattle.std.proofs.Common.{◌≡◌, take}
use Rattle.hoare_outlines.proofs.noting.NodeWriter.into_nodes.Given as goal

-- the nodes so far
abbrev pub invariant-loop-node : goal.invariant-loop-node
invariant-loop-node l = l.nodes.items ≡ take l.node-index l.node-items
