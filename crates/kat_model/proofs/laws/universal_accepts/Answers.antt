use Rattle.kat_model.proofs.Universal.{accepts-universal, accepts_inside, inside_universal_accepts}
use Rattle.kat_model.specs.Closed.{universal_of}
use Rattle.kat_model.proofs.laws.universal_accepts.Goals as goal

pub returns : goal.returns
returns c tests actions atom ms are = record {
  whole = accepts-universal tests actions atom ms are;
  around = λ e. (accepts_inside (universal_of actions) e atom ms, inside_universal_accepts tests actions e atom ms are);
}
