use Rattle.gkat_front.proofs.MadeTexts.{texts_are_made}
use Rattle.gkat_front.proofs.laws.texts_are_made.Goals as goal

pub returns : goal.returns
returns c items obey = texts_are_made items obey
