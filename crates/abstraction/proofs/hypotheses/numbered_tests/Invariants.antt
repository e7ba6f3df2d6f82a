use Rattle.std.proofs.Common.{◌≡◌, take}
use Rattle.std.specs.List.{enumerate_from}
use Rattle.abstraction.proofs.hypotheses.numbered_tests.Given as goal

-- the comparisons so far
abbrev pub invariant-loop-k : goal.invariant-loop-k
invariant-loop-k l = l.rows.items ≡ enumerate_from l.tables.tests (take l.k l.tables.comparisons)
