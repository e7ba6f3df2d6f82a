use Rattle.flow_abstraction.specs.PosedQuestion.{HasFault}
use Rattle.flow_abstraction.specs.Working.Stages.{posed_by}
use Rattle.flow_abstraction.proofs.Refusals.{refused_as}
use Rattle.flow_abstraction.proofs.question.problem_with.Goals as goal

pub tables_of-requires-clause-tests : goal.tables_of-requires-clause-tests
tables_of-requires-clause-tests c = c.requires.tests

pub tables_of-requires-clause-before : goal.tables_of-requires-clause-before
tables_of-requires-clause-before c = c.requires.before

pub tables_of-requires-clause-after : goal.tables_of-requires-clause-after
tables_of-requires-clause-after c = c.requires.after

pub returns-in_err-tables-clause-refused : goal.returns-in_err-tables-clause-refused
returns-in_err-tables-clause-refused c =
    refused_as (HasFault (posed_by c.args.question.now)) c.in_err-tables.field-0.0 c.from_residual.result c.from_residual.ensures.1 c.in_err-tables.ensures.refused

pub reasons_of-requires : goal.reasons_of-requires
reasons_of-requires c = c.in_ok-tables.ensures.made

pub returns-in_err-reasons-clause-refused : goal.returns-in_err-reasons-clause-refused
returns-in_err-reasons-clause-refused c =
    refused_as (HasFault (posed_by c.args.question.now)) c.in_err-reasons.field-0.0 c.from_residual-in_err-reasons.result c.from_residual-in_err-reasons.ensures.1
    c.in_err-reasons.ensures.refused

pub sides_of-requires-clause-limits : goal.sides_of-requires-clause-limits
sides_of-requires-clause-limits c = c.requires.limits

pub sides_of-requires-clause-tables : goal.sides_of-requires-clause-tables
sides_of-requires-clause-tables c = c.in_ok-tables.ensures.made

pub sides_of-requires-clause-before : goal.sides_of-requires-clause-before
sides_of-requires-clause-before c = c.requires.before

pub sides_of-requires-clause-after : goal.sides_of-requires-clause-after
sides_of-requires-clause-after c = c.requires.after

pub returns-in_err-sides-clause-refused : goal.returns-in_err-sides-clause-refused
returns-in_err-sides-clause-refused c =
    refused_as (HasFault (posed_by c.args.question.now)) c.in_err-sides.field-0.0 c.from_residual-in_err-sides.result c.from_residual-in_err-sides.ensures.1
    c.in_err-sides.ensures.refused

pub with_parts-requires-clause-limits : goal.with_parts-requires-clause-limits
with_parts-requires-clause-limits c = c.requires.limits

pub with_parts-requires-clause-tables : goal.with_parts-requires-clause-tables
with_parts-requires-clause-tables c = c.in_ok-tables.ensures.made

pub with_parts-requires-clause-reasons : goal.with_parts-requires-clause-reasons
with_parts-requires-clause-reasons c = c.in_ok-reasons.ensures.made

pub with_parts-requires-clause-sides : goal.with_parts-requires-clause-sides
with_parts-requires-clause-sides c = c.in_ok-sides.ensures.made

pub returns-clause-made : goal.returns-clause-made
returns-clause-made c = c.with_parts.ensures.made

pub returns-clause-rules : goal.returns-clause-rules
returns-clause-rules c = c.with_parts.ensures.rules

pub returns-clause-faultless : goal.returns-clause-faultless
returns-clause-faultless c = c.with_parts.ensures.faultless

pub returns-clause-refused : goal.returns-clause-refused
returns-clause-refused c = c.with_parts.ensures.refused
