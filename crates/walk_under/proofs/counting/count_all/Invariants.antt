use Rattle.std.proofs.Common.{◌≡◌, ◌<◌, ℕ, true, false, get_or, length}
use Rattle.walk_under.proofs.counting.count_all.Given as goal

-- the hypotheses so far count
abbrev pub invariant-loop-place : goal.invariant-loop-place
invariant-loop-place l = record {
  count : length l.counts ≡ length l.initial.counts;
  counted : (i : ℕ) → i < l.place → get_or l.counts i false ≡ true;
}
