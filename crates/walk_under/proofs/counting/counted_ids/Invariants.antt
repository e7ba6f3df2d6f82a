use Rattle.walk_under.proofs.CountedHyps.{AreCountedTo}
use Rattle.walk_under.proofs.counting.counted_ids.Given as goal

abbrev pub invariant-loop-place : goal.invariant-loop-place
invariant-loop-place l = AreCountedTo l.hyps l.counts l.ids.items l.place
