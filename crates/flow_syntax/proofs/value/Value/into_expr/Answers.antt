use Rattle.std.proofs.Common.{ap, ◌∙◌}
use Rattle.flow_syntax.specs.SyntaxViews.{expr_syntax}
use Rattle.flow_syntax.proofs.Stacked.{expr_none}
use Rattle.flow_syntax.proofs.Taken.{expr_held, no_expr_held}
use Rattle.flow_syntax.proofs.value.Value.into_expr.Goals as goal

pub returns-in-Expr : goal.returns-in-Expr
returns-in-Expr c = expr_held c.args.self c.in-Expr.expr c.in-Expr.is

pub returns : goal.returns
returns c = ap expr_syntax c.new.ensures.items ∙ expr_none ∙ no_expr_held c.args.self c.in_default.not-Expr
