use Rattle.walk_up_to.proofs.AllMarked.{AreLastMarked}
use Rattle.walk_up_to.proofs.mark_set.holds_all.Given as goal

abbrev pub invariant-loop-index : goal.invariant-loop-index
invariant-loop-index l = AreLastMarked l.marked.marks l.terms l.index
