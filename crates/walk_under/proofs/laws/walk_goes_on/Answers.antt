use Rattle.walk_under.proofs.WalkSteps.{walk_starts, walk_takes}
use Rattle.walk_under.proofs.laws.walk_goes_on.Goals as goal

pub returns : goal.returns
returns c shorts q = record { starts = λ start all. walk_starts shorts q start all; takes = λ es done e walk here own. walk_takes shorts q es done walk e here own }
