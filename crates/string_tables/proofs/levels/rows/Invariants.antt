use Rattle.std.proofs.Common.{◌≡◌, replicate}
use Rattle.string_tables.specs.Working.Matrices.{widths}
use Rattle.string_tables.proofs.levels.rows.Given as goal

abbrev pub invariant-loop : goal.invariant-loop
invariant-loop l = widths l.list.items ≡ replicate l.counter l.width
