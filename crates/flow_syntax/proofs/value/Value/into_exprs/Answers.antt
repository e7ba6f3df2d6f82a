use Rattle.std.proofs.Common.{ap, ◌∙◌}
use Rattle.flow_syntax.specs.SyntaxViews.{exprs_syntax}
use Rattle.flow_syntax.proofs.Stacked.{exprs_none}
use Rattle.flow_syntax.proofs.Taken.{exprs_held, no_exprs_held}
use Rattle.flow_syntax.proofs.value.Value.into_exprs.Goals as goal

pub returns-in-Exprs : goal.returns-in-Exprs
returns-in-Exprs c = exprs_held c.args.self c.in-Exprs.exprs c.in-Exprs.is

pub returns : goal.returns
returns c = ap exprs_syntax c.new.ensures.items ∙ exprs_none ∙ no_exprs_held c.args.self c.in_default.not-Exprs
