use Rattle.walk_up_to.proofs.Closures.{made_itself}
use Rattle.walk_up_to.proofs.saturation.add_back_under.Goals as goal

pub returns-in-None : goal.returns-in-None
returns-in-None c = made_itself c.args.listed.now.pairs c.args.marked.now.marks
