use Rattle.std.proofs.Common.{◌≡◌, min, take}
use Rattle.flow_syntax.specs.Sizes.{total, cond_node_nodes}
use Rattle.flow_syntax.specs.SyntaxViews.{cond_syntax}
use Rattle.flow_syntax.specs.declared.node_counts.TheConstants.{MOST}
use Rattle.flow_syntax.proofs.node_counts.cond_nodes.Given as goal

-- the last members
abbrev pub invariant-loop-node : goal.invariant-loop-node
invariant-loop-node l = l.nodes ≡ min (total cond_node_nodes (cond_syntax (take l.node-index l.cond))) MOST
