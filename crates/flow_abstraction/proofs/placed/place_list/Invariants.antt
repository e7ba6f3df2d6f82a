use Rattle.std.proofs.Common.{◌≡◌, false, filter, slice_index_or}
use Rattle.std.specs.List.{range_with_len}
use Rattle.flow_abstraction.proofs.placed.place_list.Given as goal

-- the places so far
abbrev pub invariant-loop-block : goal.invariant-loop-block
invariant-loop-block l = l.list.items ≡ filter (λ k. slice_index_or l.places k false) (range_with_len 0 l.block)
