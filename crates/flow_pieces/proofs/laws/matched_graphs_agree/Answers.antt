use Rattle.flow_pieces.proofs.MatchedGraphs.{matched_enough}
use Rattle.flow_pieces.proofs.laws.matched_graphs_agree.Goals as goal

pub returns : goal.returns
returns c = matched_enough
