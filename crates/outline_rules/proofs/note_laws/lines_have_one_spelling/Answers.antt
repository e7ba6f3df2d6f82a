use Rattle.outline_rules.proofs.Exactness.{lines_have_one_spelling_lem}
use Rattle.outline_rules.proofs.note_laws.lines_have_one_spelling.Goals as goal

pub returns : goal.returns
returns c = lines_have_one_spelling_lem
