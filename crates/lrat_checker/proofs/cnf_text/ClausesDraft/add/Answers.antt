use Rattle.std.proofs.Common.{arith}
use Rattle.lrat_checker.specs.Numbers.{number_of}
use Rattle.lrat_checker.specs.CnfTexts.{reading}
use Rattle.lrat_checker.proofs.HeaderSteps.{variable_wide, variable_wide_below}
use Rattle.lrat_checker.proofs.cnf_text.ClausesDraft.add.Goals as goal

pub returns-in-Some-Wide : goal.returns-in-Some-Wide
returns-in-Some-Wide c =
    variable_wide c.args.variables c.args.word.line (reading c.args.self.now.clauses.items c.args.self.now.clause.items) (number_of c.args.word.bytes.now) (omega arith) (rw c.in-Some-Wide.field-0-is at c.in-Some-Wide.ensures)

pub returns-in-Some-WideBelow : goal.returns-in-Some-WideBelow
returns-in-Some-WideBelow c =
    variable_wide_below c.args.variables c.args.word.line (reading c.args.self.now.clauses.items c.args.self.now.clause.items) (number_of c.args.word.bytes.now) (omega arith) (rw c.in-Some-WideBelow.field-0-is at c.in-Some-WideBelow.ensures)
