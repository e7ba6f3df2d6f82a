use Rattle.std.proofs.Common.{ap, ◌∙◌}
use Rattle.flow_syntax.specs.SyntaxViews.{equations_syntax}
use Rattle.flow_syntax.proofs.Stacked.{equations_none}
use Rattle.flow_syntax.proofs.Taken.{equations_held, no_equations_held}
use Rattle.flow_syntax.proofs.value.Value.into_equations.Goals as goal

pub returns-in-Equations : goal.returns-in-Equations
returns-in-Equations c = equations_held c.args.self c.in-Equations.equations c.in-Equations.is

pub returns : goal.returns
returns c = ap equations_syntax c.new.ensures.items ∙ equations_none ∙ no_equations_held c.args.self c.in_default.not-Equations
