use Rattle.walk_under.proofs.EndedWalks.{ended_accepted}
use Rattle.walk_under.proofs.laws.ended_walks_are_accepted.Goals as goal

pub returns : goal.returns
returns c shorts q es walk pairs m = ended_accepted shorts q es walk pairs m
