use Rattle.std.proofs.Common.{◌≡◌, ◌<◌, ℕ, false, length, slice_index_or}
use Rattle.string_tables.proofs.matrix.Row.clear.Given as goal

abbrev pub invariant-loop-j : goal.invariant-loop-j
invariant-loop-j l = record {
  below : (k : ℕ) → k < l.j → slice_index_or l.self-inside.values.items k false ≡ false;
  width : length l.self-inside.values.items ≡ length l.initial.self-inside.values.items;
}
