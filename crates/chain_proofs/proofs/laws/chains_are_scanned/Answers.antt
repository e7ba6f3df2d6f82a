use Rattle.chain_proofs.proofs.ScannedChains.{chains_are_scanned}
use Rattle.chain_proofs.proofs.laws.chains_are_scanned.Goals as goal

pub returns : goal.returns
returns c = chains_are_scanned
