use Rattle.flow_places.proofs.Reaching.{unmarked_cut}
use Rattle.flow_places.proofs.laws.back_edges_cut_loops.Goals as goal

pub returns : goal.returns
returns c = unmarked_cut
