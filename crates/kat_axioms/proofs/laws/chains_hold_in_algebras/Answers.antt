use Rattle.kat_axioms.proofs.Validity.{chains_hold}
use Rattle.kat_axioms.proofs.laws.chains_hold_in_algebras.Goals as goal

pub returns : goal.returns
returns g c = chains_hold g.I.Interprets.interpretation
