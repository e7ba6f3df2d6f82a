use Rattle.std.proofs.Common.{sym}
use Rattle.walk_up_to.proofs.AllMarked.{all_last}
use Rattle.walk_up_to.proofs.mark_set.holds_all.Goals as goal

pub returns : goal.returns
returns c = sym (all_last c.args.marked.now.marks c.args.terms.now c.loop-index.index c.loop-index-test.false c.loop-index.invariant)
