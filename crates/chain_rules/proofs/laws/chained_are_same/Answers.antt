use Rattle.chain_rules.proofs.Soundness.{chained_same}
use Rattle.chain_rules.proofs.laws.chained_are_same.Goals as goal

pub returns : goal.returns
returns c = chained_same
