use Rattle.std.proofs.Common.{◌≡◌, ◌++◌, take}
use Rattle.std.specs.List.{flat_map}
use Rattle.abstraction.specs.Derived.{assignment_facts}
use Rattle.abstraction.proofs.hypotheses.add_facts_of_assignments.Given as goal

-- the hypotheses from the assignments so far
abbrev pub invariant-loop-action : goal.invariant-loop-action
invariant-loop-action l = l.hyps.items ≡ l.initial.hyps.items ++ flat_map (λ a. flat_map (assignment_facts l.tables a) l.rows) (take l.action-index l.actions)
