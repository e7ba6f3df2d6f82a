use Rattle.std.proofs.lemmas.Result.{IfOk-weaker}
use Rattle.tool_decide.proofs.outline.notes_text.Goals as goal

pub returns : goal.returns
returns c = IfOk-weaker c.write_notes.result _ _ (λ v e. record { narrow = c.know_numbers.ensures; text = e }) c.write_notes.ensures
