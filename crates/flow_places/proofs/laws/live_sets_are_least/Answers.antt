use Rattle.flow_places.proofs.LiveTests.{live_exactly}
use Rattle.flow_places.proofs.laws.live_sets_are_least.Goals as goal

pub returns : goal.returns
returns c = live_exactly
