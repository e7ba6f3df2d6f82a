use Rattle.std.proofs.Common.{◌≡◌, ◌<◌, ◌&&◌, false, length, slice_index_or, ℕ}
use Rattle.kat_model.specs.Working.Decided.{some_below}
use Rattle.string_tables.specs.Working.Matrices.{entry}
use Rattle.string_tables.proofs.operations.row_product.Given as goal

abbrev pub invariant-loop-k : goal.invariant-loop-k
invariant-loop-k l = record {
  given : (j : ℕ) → j < l.n → slice_index_or l.to j false ≡ some_below (λ k. slice_index_or l.row k false && entry l.right k j) l.k;
  width : length l.to ≡ length l.initial.to;
}
