use Rattle.std.proofs.Common.{◌≡◌, ℕ, ◌<◌}
use Rattle.flow_places.specs.Tables.{noted}
use Rattle.flow_matches.proofs.exits.have_same_live.Given as goal

-- no variable so far is live at one of the blocks alone
abbrev pub invariant-loop-variable : goal.invariant-loop-variable
invariant-loop-variable l = (x : ℕ) → x < l.variable → noted l.tables.live_after.items x l.one ≡ noted l.tables.live_after.items x l.other
