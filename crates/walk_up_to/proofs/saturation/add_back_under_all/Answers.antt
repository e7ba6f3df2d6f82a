use Rattle.walk_up_to.proofs.Closures.{made_itself, made_then}
use Rattle.walk_up_to.proofs.saturation.add_back_under_all.Goals as goal

pub loop-term-init : goal.loop-term-init
loop-term-init c = made_itself c.args.listed.now.pairs c.args.marked.now.marks

pub loop-term-preserved : goal.loop-term-preserved
loop-term-preserved c = made_then c.args.listed.now.pairs c.args.marked.now.marks c.loop-term.marked.marks c.add_back_under.new.marked.marks c.loop-term.invariant c.in_ok-add_back_under.ensures
