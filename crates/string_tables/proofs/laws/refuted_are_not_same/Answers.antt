use Rattle.string_tables.proofs.Counterexamples.{refuted_not_same}
use Rattle.string_tables.proofs.laws.refuted_are_not_same.Goals as goal

pub returns : goal.returns
returns c = refuted_not_same
