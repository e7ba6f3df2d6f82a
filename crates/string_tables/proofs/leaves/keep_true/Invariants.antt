use Rattle.std.proofs.Common.{◌≡◌, ◌<◌, ◌≤◌, ◌&&◌, ℕ, false, length, slice_index_or}
use Rattle.kat_model.specs.Trees.{test_tree}
use Rattle.kat_model.specs.Steps.{truth}
use Rattle.kat_model.specs.Relations.{atom_at}
use Rattle.string_tables.proofs.leaves.keep_true.Given as goal

abbrev pub invariant-loop-j : goal.invariant-loop-j
invariant-loop-j l = record {
  below : (k : ℕ) → k < l.j → slice_index_or l.row k false ≡ (slice_index_or l.initial.row k false && truth (test_tree l.test) (atom_at l.table k));
  above : (k : ℕ) → l.j ≤ k → slice_index_or l.row k false ≡ slice_index_or l.initial.row k false;
  width : length l.row ≡ length l.initial.row;
}
