use Rattle.std.proofs.Common.{◌≡◌, take}
use Rattle.flow_syntax.specs.Sizes.{all_pass, block_short}
use Rattle.flow_syntax.specs.SyntaxViews.{blocks_syntax}
use Rattle.flow_syntax.proofs.node_counts.are_short.Given as goal

-- the last members
abbrev pub invariant-loop-block : goal.invariant-loop-block
invariant-loop-block l = l.short ≡ all_pass block_short (blocks_syntax (take l.block-index l.blocks))
