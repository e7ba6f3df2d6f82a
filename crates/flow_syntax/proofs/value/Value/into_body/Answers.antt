use Rattle.std.proofs.Common.{ap, ◌∙◌}
use Rattle.flow_syntax.specs.SyntaxViews.{statements_syntax}
use Rattle.flow_syntax.proofs.Stacked.{statements_none}
use Rattle.flow_syntax.proofs.Taken.{statements_held, jump_held, no_statements_held, no_jump_held}
use Rattle.flow_syntax.proofs.value.Value.into_body.Goals as goal

pub returns-in-Body-clause-statements : goal.returns-in-Body-clause-statements
returns-in-Body-clause-statements c = statements_held c.args.self c.in-Body.statements c.in-Body.jump c.in-Body.is

pub returns-in-Body-clause-jump : goal.returns-in-Body-clause-jump
returns-in-Body-clause-jump c = jump_held c.args.self c.in-Body.statements c.in-Body.jump c.in-Body.is

pub returns-clause-statements : goal.returns-clause-statements
returns-clause-statements c = ap statements_syntax c.new.ensures.items ∙ statements_none ∙ no_statements_held c.args.self c.in_default.not-Body

pub returns-clause-jump : goal.returns-clause-jump
returns-clause-jump c = no_jump_held c.args.self c.in_default.not-Body
