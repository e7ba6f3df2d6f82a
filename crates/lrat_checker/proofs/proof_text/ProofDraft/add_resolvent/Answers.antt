use Rattle.lrat_checker.specs.Numbers.{number_of}
use Rattle.lrat_checker.proofs.LineWords.{resolvent_wide, resolvent_wide_below}
use Rattle.lrat_checker.proofs.proof_text.ProofDraft.add_resolvent.Goals as goal

pub returns-in-Some-Wide : goal.returns-in-Some-Wide
returns-in-Some-Wide c = resolvent_wide c.args.self.now.lines.items c.args.word.line c.args.self.now.id c.args.self.now.literals.items c.args.self.now.ids.items (number_of c.args.word.bytes.now) (rw c.in-Some-Wide.field-0-is at c.in-Some-Wide.ensures)

pub returns-in-Some-WideBelow : goal.returns-in-Some-WideBelow
returns-in-Some-WideBelow c = resolvent_wide_below c.args.self.now.lines.items c.args.word.line c.args.self.now.id c.args.self.now.literals.items c.args.self.now.ids.items (number_of c.args.word.bytes.now) (rw c.in-Some-WideBelow.field-0-is at c.in-Some-WideBelow.ensures)
