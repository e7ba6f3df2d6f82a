use Rattle.walk_up_to.proofs.Closures.{made_itself}
use Rattle.walk_up_to.proofs.saturation.look_back.Goals as goal

pub returns-else-load : goal.returns-else-load
returns-else-load c = made_itself c.args.listed.now.pairs c.args.marked.now.marks
