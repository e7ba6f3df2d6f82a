use Rattle.flow_laws.proofs.WholeFiles.{flow_matches_whole}
use Rattle.flow_laws.proofs.laws.matches_are_whole.Goals as goal

pub returns : goal.returns
returns c = flow_matches_whole
