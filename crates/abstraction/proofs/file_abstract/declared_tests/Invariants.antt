use Rattle.std.proofs.Common.{◌≡◌, map}
use Rattle.std.specs.List.{range_with_len}
use Rattle.abstraction.specs.declared.rows.TestRow.TheVariants.{Named}
use Rattle.abstraction.proofs.file_abstract.declared_tests.Given as goal

-- the rows so far
abbrev pub invariant-loop-k : goal.invariant-loop-k
invariant-loop-k l = l.rows.items ≡ map Named (range_with_len 0 l.k)
