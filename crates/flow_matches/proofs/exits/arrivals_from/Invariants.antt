use Rattle.std.proofs.Common.{◌≡◌, false, length, take, slice_index_or, vec_len}
use Rattle.flow_model.specs.Polish.{graph_of}
use Rattle.flow_pieces.specs.PieceGraphs.{arrivals_of}
use Rattle.flow_matches.specs.Working.ExitViews.{IsMarkedList}
use Rattle.flow_matches.proofs.exits.arrivals_from.Given as goal

-- the blocks that are met so far
abbrev pub invariant-loop-block : goal.invariant-loop-block
invariant-loop-block l = record {
  marked : IsMarkedList l.arrivals;
  long : vec_len l.arrivals.marks ≡ length l.stops;
  found : l.arrivals.blocks.items ≡ arrivals_of (graph_of l.blocks) (λ k. slice_index_or l.stops k false) (take l.block-index l.inside);
}
