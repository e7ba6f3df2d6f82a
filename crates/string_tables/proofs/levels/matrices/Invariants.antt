use Rattle.std.proofs.Common.{◌≡◌, length, replicate}
use Rattle.string_tables.specs.Working.Matrices.{sizes}
use Rattle.string_tables.proofs.levels.matrices.Given as goal

abbrev pub invariant-loop : goal.invariant-loop
invariant-loop l = record {
  length : length l.list.items ≡ l.counter;
  sizes : sizes l.list.items ≡ replicate l.counter l.size;
}
