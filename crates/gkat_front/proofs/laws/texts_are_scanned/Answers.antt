use Rattle.gkat_front.proofs.ScannedTexts.{texts_are_scanned}
use Rattle.gkat_front.proofs.laws.texts_are_scanned.Goals as goal

pub returns : goal.returns
returns c ts = texts_are_scanned ts
