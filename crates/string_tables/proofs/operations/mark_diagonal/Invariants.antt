use Rattle.std.proofs.Common.{◌≡◌, ◌<◌, ◌≤◌, ◌||◌, eqb, ℕ}
use Rattle.string_tables.specs.Working.Matrices.{entry}
use Rattle.string_tables.proofs.operations.mark_diagonal.Given as goal

abbrev pub invariant-loop-i : goal.invariant-loop-i
invariant-loop-i l = record {
  below : (a b : ℕ) → a < l.i → b < l.n → entry l.m a b ≡ (eqb a b || entry l.initial.m a b);
  above : (a b : ℕ) → l.i ≤ a → a < l.n → b < l.n → entry l.m a b ≡ entry l.initial.m a b;
  size : l.m.size ≡ l.initial.m.size;
}
