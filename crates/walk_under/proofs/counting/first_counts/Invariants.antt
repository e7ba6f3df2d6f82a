use Rattle.std.proofs.Common.{◌≡◌, length}
use Rattle.walk_under.proofs.counting.first_counts.Given as goal

abbrev pub invariant-loop-hyp : goal.invariant-loop-hyp
invariant-loop-hyp l = length l.counts.items ≡ l.hyp-index
