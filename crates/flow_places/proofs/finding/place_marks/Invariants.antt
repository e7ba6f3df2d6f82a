use Rattle.std.proofs.Common.{◌≡◌, map}
use Rattle.std.specs.List.{range_with_len}
use Rattle.flow_model.specs.Polish.{graph_of}
use Rattle.flow_places.specs.Walks.{walk_of}
use Rattle.flow_places.specs.Places.{place_test}
use Rattle.flow_places.proofs.finding.place_marks.Given as goal

abbrev pub invariant-loop-block : goal.invariant-loop-block
invariant-loop-block l = l.marks.items ≡ map (place_test (walk_of l.walk) l.marked (graph_of l.blocks)) (range_with_len 0 l.block)
