use Rattle.lrat_checker.specs.Numbers.{unsigned}
use Rattle.lrat_checker.proofs.WideNumbers.{negated_wide}
use Rattle.lrat_checker.proofs.words.negative.Goals as goal

pub returns-in-Some-Wide : goal.returns-in-Some-Wide
returns-in-Some-Wide c = negated_wide (unsigned c.args.digits.now) (rw c.in-Some-Wide.field-0-is at c.in-Some-Wide.ensures)
