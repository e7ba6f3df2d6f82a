use Rattle.std.proofs.Common.{◌≡◌}
use Rattle.flow_matches.specs.Working.SideViews.{number_all_arrivals, numbers_of_leaves}
use Rattle.flow_matches.proofs.side.number_arrivals.Given as goal

-- the arrivals that are left get the numbers that are left
abbrev pub invariant-loop-block : goal.invariant-loop-block
invariant-loop-block l =
    number_all_arrivals l.number l.block-iterator.a.rest.now (numbers_of_leaves l.block-iterator.b.rest.now) l.targets.items
    ≡ number_all_arrivals l.first l.arrivals (numbers_of_leaves l.leaves) l.initial.targets.items
