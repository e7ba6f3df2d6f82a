use Rattle.std.proofs.Common.{◌≡◌, take}
use Rattle.flow_syntax.specs.Sizes.{all_pass, is_short}
use Rattle.flow_syntax.specs.SyntaxViews.{exprs_syntax}
use Rattle.flow_syntax.proofs.node_counts.are_all_short.Given as goal

-- the last members
abbrev pub invariant-loop-expr : goal.invariant-loop-expr
invariant-loop-expr l = l.short ≡ all_pass is_short (exprs_syntax (take l.expr-index l.exprs))
