use Rattle.std.proofs.Common.{◌≡◌, ◌<◌, ℕ, length}
use Rattle.kat_model.specs.Working.Decided.{warshall}
use Rattle.string_tables.specs.Working.Matrices.{entry}
use Rattle.string_tables.proofs.operations.close.Given as goal

abbrev pub invariant-loop-k : goal.invariant-loop-k
invariant-loop-k l = record {
  given : (a b : ℕ) → a < l.n → b < l.n → entry l.m a b ≡ warshall (entry l.fn.m) l.k a b;
  size : l.m.size ≡ l.initial.m.size;
  width : length l.spare ≡ length l.initial.spare;
}
