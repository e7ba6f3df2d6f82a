use Rattle.std.proofs.Common.{ap, ◌∙◌}
use Rattle.flow_syntax.specs.SyntaxViews.{tokens_syntax, expr_syntax}
use Rattle.flow_syntax.proofs.Stacked.{tokens_none, expr_none}
use Rattle.flow_syntax.proofs.Taken.{operators_held, operands_held, no_operators_held, no_operands_held}
use Rattle.flow_syntax.proofs.value.Value.into_operations.Goals as goal

pub returns-in-Operations-clause-operators : goal.returns-in-Operations-clause-operators
returns-in-Operations-clause-operators c = operators_held c.args.self c.in-Operations.operators c.in-Operations.operands c.in-Operations.is

pub returns-in-Operations-clause-operands : goal.returns-in-Operations-clause-operands
returns-in-Operations-clause-operands c = operands_held c.args.self c.in-Operations.operators c.in-Operations.operands c.in-Operations.is

pub returns-clause-operators : goal.returns-clause-operators
returns-clause-operators c = ap tokens_syntax c.new.ensures.items ∙ tokens_none ∙ no_operators_held c.args.self c.in_default.not-Operations

pub returns-clause-operands : goal.returns-clause-operands
returns-clause-operands c = ap expr_syntax c.new-2.ensures.items ∙ expr_none ∙ no_operands_held c.args.self c.in_default.not-Operations
