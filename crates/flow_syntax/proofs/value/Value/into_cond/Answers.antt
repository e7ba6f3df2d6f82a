use Rattle.std.proofs.Common.{ap, ◌∙◌}
use Rattle.flow_syntax.specs.SyntaxViews.{cond_syntax}
use Rattle.flow_syntax.proofs.Stacked.{cond_none}
use Rattle.flow_syntax.proofs.Taken.{cond_held, no_cond_held}
use Rattle.flow_syntax.proofs.value.Value.into_cond.Goals as goal

pub returns-in-Cond : goal.returns-in-Cond
returns-in-Cond c = cond_held c.args.self c.in-Cond.cond c.in-Cond.is

pub returns : goal.returns
returns c = ap cond_syntax c.new.ensures.items ∙ cond_none ∙ no_cond_held c.args.self c.in_default.not-Cond
