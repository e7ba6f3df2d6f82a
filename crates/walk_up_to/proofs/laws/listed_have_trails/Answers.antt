use Rattle.std.proofs.lemmas.Option.{slice_get_within}
use Rattle.walk_up_to.proofs.Trails.{trail_of}
use Rattle.walk_up_to.proofs.laws.listed_have_trails.Goals as goal

pub returns : goal.returns
returns c q es done walk k e at = trail_of q es done walk k (slice_get_within es k e at)
