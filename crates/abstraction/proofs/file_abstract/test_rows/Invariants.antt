use Rattle.std.proofs.Common.{◌≡◌, ◌++◌, map}
use Rattle.abstraction.specs.declared.rows.TestRow.TheVariants.{Compare}
use Rattle.abstraction.proofs.file_abstract.test_rows.Given as goal

-- the rows so far, and the remaining ones
abbrev pub invariant-loop-atomic : goal.invariant-loop-atomic
invariant-loop-atomic l = l.rows.items ++ map Compare l.atomic-iterator.rest.items ≡ l.initial.rows.items ++ map Compare l.fn.comparisons.items
