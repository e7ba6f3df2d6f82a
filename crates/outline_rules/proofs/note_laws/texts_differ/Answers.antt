use Rattle.outline_rules.proofs.Exactness.{texts_differ_lem}
use Rattle.outline_rules.proofs.note_laws.texts_differ.Goals as goal

pub returns : goal.returns
returns c = texts_differ_lem
