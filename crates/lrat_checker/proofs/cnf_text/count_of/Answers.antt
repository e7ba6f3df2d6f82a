use Rattle.std.proofs.Common.{arith}
use Rattle.lrat_checker.specs.Numbers.{number_of}
use Rattle.lrat_checker.proofs.HeaderSteps.{counted_wide, counted_below}
use Rattle.lrat_checker.proofs.cnf_text.count_of.Goals as goal

pub returns-in-Some-Wide-clause-value : goal.returns-in-Some-Wide-clause-value
returns-in-Some-Wide-clause-value c = λ more. counted_wide c.args.most c.args.word.line more (number_of c.args.word.bytes.now) (omega arith) (rw c.in-Some-Wide.field-0-is at c.in-Some-Wide.ensures)

pub returns-in-Some-WideBelow-clause-value : goal.returns-in-Some-WideBelow-clause-value
returns-in-Some-WideBelow-clause-value c = λ more. counted_below c.args.most c.args.word.line more (number_of c.args.word.bytes.now) (rw c.in-Some-WideBelow.field-0-is at c.in-Some-WideBelow.ensures)
