use Rattle.certificate.proofs.Exactness.{texts_differ_lem}
use Rattle.certificate.proofs.laws.texts_differ.Goals as goal

pub returns : goal.returns
returns c = texts_differ_lem
