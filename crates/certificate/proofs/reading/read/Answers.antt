use Rattle.line_format.proofs.WholeTexts.{value_from}
use Rattle.certificate.specs.Working.Readings.{unless_memory}
use Rattle.certificate.proofs.EvidenceTexts.{text_laws}
use Rattle.certificate.proofs.Exactness.{only_from}
use Rattle.certificate.proofs.reading.read.Goals as goal

pub returns-clause-evidence : goal.returns-clause-evidence
returns-clause-evidence c = value_from text_laws unless_memory c.args.bytes.now c.read_all.result c.read_all.ensures

pub returns-clause-only : goal.returns-clause-only
returns-clause-only c = only_from c.args.bytes.now c.read_all.result c.read_all.ensures
