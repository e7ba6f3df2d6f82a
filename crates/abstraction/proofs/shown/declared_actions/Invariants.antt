use Rattle.std.proofs.Common.{◌≡◌, ◌+◌, ◌≤◌, drop}
use Rattle.abstraction.specs.ShownTables.{declared_actions}
use Rattle.abstraction.proofs.shown.declared_actions.Given as goal

-- the actions counted so far, and the remaining ones
abbrev pub invariant-loop-row : goal.invariant-loop-row
invariant-loop-row l = (l.count + declared_actions (drop l.row-index l.rows) ≡ declared_actions l.rows) × (l.count ≤ l.row-index)
