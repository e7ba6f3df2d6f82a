use Rattle.std.proofs.Common.{◌≡◌}
use Rattle.flow_matches.specs.Working.ExitViews.{noted_at}
use Rattle.flow_matches.proofs.exits.live_at.Given as goal

-- the live variables so far
abbrev pub invariant-loop-variable : goal.invariant-loop-variable
invariant-loop-variable l = l.live.items ≡ noted_at l.tables l.variable l.block
