use Rattle.flow_laws.proofs.WholeFiles.{flow_names_read}
use Rattle.flow_laws.proofs.laws.match_names_are_read.Goals as goal

pub returns : goal.returns
returns c = flow_names_read
