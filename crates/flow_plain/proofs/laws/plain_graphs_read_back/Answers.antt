use Rattle.flow_plain.proofs.ReadBack.{read_back}
use Rattle.flow_plain.proofs.laws.plain_graphs_read_back.Goals as goal

pub returns : goal.returns
returns c = read_back
