use Rattle.std.proofs.Common.{◌≡◌, ◌∷◌, take, map}
use Rattle.string_tables.specs.Tables.{steps_from}
use Rattle.string_tables.proofs.table.table_of.Given as goal

-- the states and the moves of the part of the string read so far
abbrev pub invariant-loop-k : goal.invariant-loop-k
invariant-loop-k l = record {
  truths : l.truths.items ≡ l.string.first ∷ map (λ m. m.atom) (take l.k l.rest);
  moves : l.moves.items ≡ steps_from 0 (take l.k l.rest);
}
