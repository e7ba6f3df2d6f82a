use Rattle.std.proofs.Common.{◌≡◌, ◌++◌, take}
use Rattle.std.specs.List.{flat_map}
use Rattle.abstraction.specs.Derived.{assignment_facts}
use Rattle.abstraction.proofs.hypotheses.add_facts_of_assignment.Given as goal

-- the hypotheses from the assignment and the comparisons so far
abbrev pub invariant-loop-row : goal.invariant-loop-row
invariant-loop-row l = l.hyps.items ≡ l.initial.hyps.items ++ flat_map (assignment_facts l.tables l.action) (take l.row-index l.rows)
