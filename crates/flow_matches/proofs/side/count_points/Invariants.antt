use Rattle.std.proofs.Common.{◌≡◌, drop}
use Rattle.flow_matches.specs.Working.SideViews.{after_arrivals, numbers_of_leaves}
use Rattle.flow_matches.proofs.side.count_points.Given as goal

-- the arrivals that are left follow
abbrev pub invariant-loop-exits : goal.invariant-loop-exits
invariant-loop-exits l = after_arrivals l.number (numbers_of_leaves (drop l.exits-index l.leaves)) ≡ after_arrivals l.first (numbers_of_leaves l.leaves)
