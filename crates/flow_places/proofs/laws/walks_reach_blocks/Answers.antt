use Rattle.flow_places.proofs.Reaching.{reached_exactly}
use Rattle.flow_places.proofs.laws.walks_reach_blocks.Goals as goal

pub returns : goal.returns
returns c = reached_exactly
