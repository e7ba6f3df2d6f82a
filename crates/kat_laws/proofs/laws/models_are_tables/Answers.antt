use Rattle.kat_laws.proofs.Theories.{has_one_theory}
use Rattle.kat_laws.proofs.laws.models_are_tables.Goals as goal

pub returns : goal.returns
returns c = has_one_theory
