use Rattle.kat_axioms.proofs.Languages.{same_language}
use Rattle.kat_axioms.proofs.laws.same_accept_alike.Goals as goal

pub returns : goal.returns
returns c = same_language
