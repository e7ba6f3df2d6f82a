use Rattle.flow_laws.proofs.WholeFiles.{flow_matches_of}
use Rattle.flow_laws.proofs.laws.matches_are_sorted.Goals as goal

pub returns : goal.returns
returns c = flow_matches_of
