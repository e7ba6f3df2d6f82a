use Rattle.lrat_checker.specs.Numbers.{number_of}
use Rattle.lrat_checker.proofs.LineWords.{id_wide, id_wide_below}
use Rattle.lrat_checker.proofs.proof_text.ProofDraft.add_id.Goals as goal

pub returns-in-Some-Wide : goal.returns-in-Some-Wide
returns-in-Some-Wide c = id_wide c.args.self.now.lines.items c.args.word.line (number_of c.args.word.bytes.now) (rw c.in-Some-Wide.field-0-is at c.in-Some-Wide.ensures)

pub returns-in-Some-WideBelow : goal.returns-in-Some-WideBelow
returns-in-Some-WideBelow c = id_wide_below c.args.self.now.lines.items c.args.word.line (number_of c.args.word.bytes.now) (rw c.in-Some-WideBelow.field-0-is at c.in-Some-WideBelow.ensures)
