use Rattle.walk_up_to.proofs.Closures.{made_itself, made_then}
use Rattle.walk_up_to.proofs.saturation.add_back.Goals as goal

pub loop-pair_side-init : goal.loop-pair_side-init
loop-pair_side-init c = made_itself c.args.listed.now.pairs c.args.marked.now.marks

pub loop-pair_side-preserved : goal.loop-pair_side-preserved
loop-pair_side-preserved c = made_then c.args.listed.now.pairs c.args.marked.now.marks c.loop-pair_side.marked.marks c.add_at.new.marked.marks c.loop-pair_side.invariant c.in_ok-add_at.ensures.made
