use Rattle.std.proofs.Common.{◌≡◌, take}
use Rattle.flow_syntax.specs.Sizes.{all_pass, cond_node_short}
use Rattle.flow_syntax.specs.SyntaxViews.{cond_syntax}
use Rattle.flow_syntax.proofs.node_counts.is_cond_short.Given as goal

-- the last members
abbrev pub invariant-loop-node : goal.invariant-loop-node
invariant-loop-node l = l.short ≡ all_pass cond_node_short (cond_syntax (take l.node-index l.cond))
