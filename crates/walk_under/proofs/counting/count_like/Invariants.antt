use Rattle.std.proofs.Common.{◌≡◌, ◌≤◌, length}
use Rattle.walk_under.specs.Counting.{uncounted, StillCount}
use Rattle.walk_under.proofs.counting.count_like.Given as goal

abbrev pub invariant-loop-other : goal.invariant-loop-other
invariant-loop-other l = record {
  count : length l.counts ≡ length l.initial.counts;
  fewer : uncounted l.counts ≤ uncounted l.initial.counts;
  kept : StillCount l.initial.counts l.counts;
}
