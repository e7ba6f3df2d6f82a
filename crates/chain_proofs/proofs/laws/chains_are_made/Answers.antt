use Rattle.chain_proofs.proofs.MadeChains.{chains_are_made}
use Rattle.chain_proofs.proofs.laws.chains_are_made.Goals as goal

pub returns : goal.returns
returns c = chains_are_made
