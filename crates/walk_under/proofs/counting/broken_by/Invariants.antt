use Rattle.walk_under.proofs.CountedHyps.{AreBrokenTo}
use Rattle.walk_under.proofs.counting.broken_by.Given as goal

abbrev pub invariant-loop-place : goal.invariant-loop-place
invariant-loop-place l = AreBrokenTo l.hyps l.counts l.string l.broken.items l.place
