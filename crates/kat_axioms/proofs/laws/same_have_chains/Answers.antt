use Rattle.kat_axioms.proofs.CompleteChains.{axioms_complete}
use Rattle.kat_axioms.proofs.laws.same_have_chains.Goals as goal

pub returns : goal.returns
returns c = axioms_complete
