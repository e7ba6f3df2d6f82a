use Rattle.std.proofs.Common.{◌≡◌, ◌<◌, ℕ, false, slice_index_or}
use Rattle.string_tables.specs.Working.Matrices.{row_at, IsSquare}
use Rattle.string_tables.proofs.matrix.Matrix.clear.Given as goal

abbrev pub invariant-loop-i : goal.invariant-loop-i
invariant-loop-i l = record {
  square : IsSquare (record { size = l.self-inside.size; rows = l.self-inside.rows.items });
  below : (a j : ℕ) → a < l.i → j < l.n → slice_index_or (row_at l.self-inside.rows.items a) j false ≡ false;
  size : l.self-inside.size ≡ l.initial.self-inside.size;
}
