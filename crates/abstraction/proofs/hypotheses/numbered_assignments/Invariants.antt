use Rattle.std.proofs.Common.{◌≡◌, take}
use Rattle.std.specs.List.{enumerate_from}
use Rattle.abstraction.proofs.hypotheses.numbered_assignments.Given as goal

-- the assignments so far
abbrev pub invariant-loop-k : goal.invariant-loop-k
invariant-loop-k l = l.rows.items ≡ enumerate_from l.tables.actions (take l.k l.tables.assignments)
