use Rattle.line_format.proofs.WholeTexts.{value_from}
use Rattle.outline_rules.specs.Working.Readings.{unless_memory}
use Rattle.outline_rules.proofs.LineFormats.{text_laws}
use Rattle.outline_rules.proofs.Exactness.{only_from}
use Rattle.outline_rules.proofs.reading.read_notes.Goals as goal

pub returns-clause-notes : goal.returns-clause-notes
returns-clause-notes c = value_from text_laws unless_memory c.args.bytes.now c.read_all.result c.read_all.ensures

pub returns-clause-only : goal.returns-clause-only
returns-clause-only c = only_from c.args.bytes.now c.read_all.result c.read_all.ensures
