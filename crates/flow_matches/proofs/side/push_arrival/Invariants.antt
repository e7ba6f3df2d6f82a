use Rattle.std.proofs.Common.{◌≡◌, ◌++◌, ◌∷◌, [], true, length, drop}
use Rattle.flow_model.specs.Polish.{graph_of}
use Rattle.flow_pieces.specs.PieceGraphs.{mark}
use Rattle.flow_matches.specs.Working.SideViews.{leave_trees, arrival_blocks}
use Rattle.flow_matches.specs.Working.WholeSides.{are_whole_leaves, AddsWholeBlocks}
use Rattle.flow_matches.proofs.side.push_arrival.Given as goal

-- the blocks of the exits that are left follow
abbrev pub invariant-loop-leave : goal.invariant-loop-leave
invariant-loop-leave l = record {
  added : graph_of l.list.items ++ arrival_blocks (length (graph_of l.list.items)) (leave_trees (drop l.leave-index l.leaves)) (mark l.otherwise ∷ [])
      ≡ graph_of l.initial.list.items ++ arrival_blocks (length (graph_of l.initial.list.items)) (leave_trees l.leaves) (mark l.otherwise ∷ []);
  whole : are_whole_leaves l.leaves ≡ true → AddsWholeBlocks l.initial.list l.list;
}
