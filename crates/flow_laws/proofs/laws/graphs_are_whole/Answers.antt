use Rattle.flow_laws.proofs.WholeFiles.{flow_graphs_whole}
use Rattle.flow_laws.proofs.laws.graphs_are_whole.Goals as goal

pub returns : goal.returns
returns c = flow_graphs_whole
