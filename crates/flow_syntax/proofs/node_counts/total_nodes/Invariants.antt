use Rattle.std.proofs.Common.{◌≡◌, min, take}
use Rattle.flow_syntax.specs.Sizes.{total, block_nodes}
use Rattle.flow_syntax.specs.SyntaxViews.{blocks_syntax}
use Rattle.flow_syntax.specs.declared.node_counts.TheConstants.{MOST}
use Rattle.flow_syntax.proofs.node_counts.total_nodes.Given as goal

-- the last members
abbrev pub invariant-loop-block : goal.invariant-loop-block
invariant-loop-block l = l.nodes ≡ min (total block_nodes (blocks_syntax (take l.block-index l.blocks))) MOST
