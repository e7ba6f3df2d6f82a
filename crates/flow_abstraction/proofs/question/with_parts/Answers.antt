use Rattle.std.proofs.Common.{◌∙◌}
use Rattle.flow_abstraction.specs.Working.Stages.{posed_by}
use Rattle.flow_abstraction.proofs.Wholes.{parts_refused, parts_make, parts_faultless, rules_are}
use Rattle.flow_abstraction.proofs.question.with_parts.Goals as goal

pub returns-in-Ok-clause-made : goal.returns-in-Ok-clause-made
returns-in-Ok-clause-made c =
    parts_make (posed_by c.args.question.now) c.requires.limits c.args.tables c.requires.tables c.args.reasons c.requires.reasons c.args.sides c.requires.sides
    c.len.result c.len-2.result (c.len.ensures ∙ c.args.tables.tests.ok.0) (c.len-2.ensures ∙ c.args.tables.actions.ok.0) c.in-Ok.problem c.in-Ok.ensures.made c.in-Ok.ensures.within

pub returns-in-Ok-clause-rules : goal.returns-in-Ok-clause-rules
returns-in-Ok-clause-rules c =
    rules_are (posed_by c.args.question.now) c.requires.limits c.args.tables c.requires.tables c.args.reasons c.requires.reasons c.args.sides c.requires.sides

pub returns-in-Ok-clause-faultless : goal.returns-in-Ok-clause-faultless
returns-in-Ok-clause-faultless c =
    parts_faultless (posed_by c.args.question.now) c.requires.limits c.args.tables c.requires.tables c.args.reasons c.requires.reasons c.args.sides c.requires.sides
    c.len.result c.len-2.result (c.len.ensures ∙ c.args.tables.tests.ok.0) (c.len-2.ensures ∙ c.args.tables.actions.ok.0) c.in-Ok.problem c.in-Ok.ensures.made c.in-Ok.ensures.within

pub returns-in-Err-clause-refused : goal.returns-in-Err-clause-refused
returns-in-Err-clause-refused c =
    parts_refused (posed_by c.args.question.now) c.requires.limits c.args.tables c.requires.tables c.args.reasons c.requires.reasons c.args.sides c.requires.sides
    c.len.result c.len-2.result (c.len.ensures ∙ c.args.tables.tests.ok.0) (c.len-2.ensures ∙ c.args.tables.actions.ok.0) _ c.in-Err.ensures.refused
