use Rattle.std.proofs.Common.{◌≡◌, drop, ◌≤◌}
use Rattle.flow_syntax.specs.Rules.{index_after_matching}
use Rattle.flow_syntax.proofs.reading.index_after_matching.Given as goal

abbrev pub invariant-loop-i : goal.invariant-loop-i
invariant-loop-i l = (l.open ≤ l.i) × (index_after_matching l.open (drop l.i l.marks) ≡ index_after_matching 0 (drop l.from l.marks))
