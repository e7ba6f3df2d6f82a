use Rattle.outline_rules.proofs.Exactness.{is_text_or_faulty_lem}
use Rattle.outline_rules.proofs.note_laws.is_text_or_faulty.Goals as goal

pub returns : goal.returns
returns c = is_text_or_faulty_lem
