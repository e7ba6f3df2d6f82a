use Rattle.std.proofs.Common.{◌≡◌, ◌<◌, ◌≤◌, ◌&&◌, ℕ, length}
use Rattle.kat_model.specs.Working.Decided.{some_below}
use Rattle.string_tables.specs.Working.Matrices.{entry}
use Rattle.string_tables.proofs.operations.multiply.Given as goal

abbrev pub invariant-loop-i : goal.invariant-loop-i
invariant-loop-i l = record {
  below : (a b : ℕ) → a < l.i → b < l.n → entry l.m a b ≡ some_below (λ k. entry l.initial.m a k && entry l.other k b) l.n;
  above : (a b : ℕ) → l.i ≤ a → entry l.m a b ≡ entry l.initial.m a b;
  size : l.m.size ≡ l.initial.m.size;
  width : length l.spare ≡ length l.initial.spare;
}
