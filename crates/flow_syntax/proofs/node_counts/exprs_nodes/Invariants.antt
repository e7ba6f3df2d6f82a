use Rattle.std.proofs.Common.{◌≡◌, min, take}
use Rattle.flow_syntax.specs.Sizes.{total, expr_nodes}
use Rattle.flow_syntax.specs.SyntaxViews.{exprs_syntax}
use Rattle.flow_syntax.specs.declared.node_counts.TheConstants.{MOST}
use Rattle.flow_syntax.proofs.node_counts.exprs_nodes.Given as goal

-- the last members
abbrev pub invariant-loop-expr : goal.invariant-loop-expr
invariant-loop-expr l = l.nodes ≡ min (total expr_nodes (exprs_syntax (take l.expr-index l.exprs))) MOST
