use Rattle.certificate.proofs.PlainBytes.{text_plain}
use Rattle.certificate.proofs.laws.texts_are_plain.Goals as goal

pub returns : goal.returns
returns c = text_plain
