use Rattle.flow_places.proofs.CutRuns.{comes_to_end}
use Rattle.flow_places.proofs.laws.places_cut_runs.Goals as goal

pub returns : goal.returns
returns c = comes_to_end
