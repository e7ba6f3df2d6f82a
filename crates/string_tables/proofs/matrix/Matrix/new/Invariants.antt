use Rattle.std.proofs.Common.{◌≡◌, ◌<◌, ℕ, length}
use Rattle.string_tables.specs.Working.Matrices.{row_at}
use Rattle.string_tables.proofs.matrix.Matrix.new.Given as goal

abbrev pub invariant-loop : goal.invariant-loop
invariant-loop l = record {
  height : length l.rows.items ≡ l.counter;
  width : (i : ℕ) → i < l.counter → length (row_at l.rows.items i) ≡ l.size;
}
