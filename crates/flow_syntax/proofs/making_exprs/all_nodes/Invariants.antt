use Rattle.std.proofs.Common.{◌≡◌, take}
use Rattle.flow_syntax.specs.Actions.{all_nodes}
use Rattle.flow_syntax.specs.SyntaxViews.{expr_syntax, exprs_syntax}
use Rattle.flow_syntax.proofs.making_exprs.all_nodes.Given as goal

abbrev pub invariant-loop-expr : goal.invariant-loop-expr
invariant-loop-expr l = expr_syntax l.nodes.items ≡ all_nodes (exprs_syntax (take l.expr-index l.exprs))
