use Rattle.std.proofs.Common.{◌≡◌, ◌+◌, ◌≤◌, drop}
use Rattle.abstraction.specs.ShownTables.{declared_tests}
use Rattle.abstraction.proofs.shown.declared_tests.Given as goal

-- the tests counted so far, and the remaining ones
abbrev pub invariant-loop-row : goal.invariant-loop-row
invariant-loop-row l = (l.count + declared_tests (drop l.row-index l.rows) ≡ declared_tests l.rows) × (l.count ≤ l.row-index)
