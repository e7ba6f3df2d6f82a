use Rattle.std.proofs.Common.{◌≡◌, ◌<◌, ◌≤◌, ◌||◌, ℕ, false, length, slice_index_or}
use Rattle.string_tables.proofs.matrix.join_values.Given as goal

abbrev pub invariant-loop-j : goal.invariant-loop-j
invariant-loop-j l = record {
  below : (k : ℕ) → k < l.j → slice_index_or l.own k false ≡ (slice_index_or l.initial.own k false || slice_index_or l.other k false);
  above : (k : ℕ) → l.j ≤ k → slice_index_or l.own k false ≡ slice_index_or l.initial.own k false;
  width : length l.own ≡ length l.initial.own;
}
