use Rattle.std.proofs.Common.{◌≡◌, ◌+◌, false, drop, slice_index_or}
use Rattle.flow_matches.specs.Working.SideViews.{number_blocks}
use Rattle.flow_matches.proofs.side.number_inside.Given as goal

-- the blocks that are left get the numbers that are left
abbrev pub invariant-loop-place : goal.invariant-loop-place
invariant-loop-place l =
    number_blocks (λ k. slice_index_or l.stops k false) (l.place + 1) (drop l.place l.inside) l.targets.items ≡ number_blocks (λ k. slice_index_or l.stops k false) 1 l.inside l.initial.targets.items
