use Rattle.kat_laws.proofs.SmallStrings.{small_decide}
use Rattle.kat_laws.proofs.laws.small_strings_decide.Goals as goal

pub returns : goal.returns
returns c = small_decide
