use Rattle.std.proofs.Common.{◌≡◌, ◌<◌, ◌≤◌, ◌&&◌, eqb, ℕ, false}
use Rattle.kat_model.specs.Trees.{test_tree}
use Rattle.kat_model.specs.Steps.{truth}
use Rattle.kat_model.specs.Relations.{atom_at}
use Rattle.string_tables.specs.Working.Matrices.{entry}
use Rattle.string_tables.proofs.leaves.put_test.Given as goal

abbrev pub invariant-loop-i : goal.invariant-loop-i
invariant-loop-i l = record {
  below : (a b : ℕ) → a < l.i → b < l.table.states → entry l.m a b ≡ (eqb a b && truth (test_tree l.test) (atom_at l.table a));
  above : (a b : ℕ) → l.i ≤ a → a < l.table.states → b < l.table.states → entry l.m a b ≡ false;
  size : l.m.size ≡ l.initial.m.size;
}
