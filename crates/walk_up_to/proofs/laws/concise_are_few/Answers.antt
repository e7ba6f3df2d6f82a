use Rattle.walk_up_to.proofs.Concise.{concise_few}
use Rattle.walk_up_to.proofs.laws.concise_are_few.Goals as goal

pub returns : goal.returns
returns c = concise_few
