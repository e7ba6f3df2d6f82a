use Rattle.std.proofs.Common.{◌≡◌, ◌++◌, ◌∷◌, [], true, length, map, drop}
use Rattle.std.specs.Prelude.{Vec}
use Rattle.std.specs.declared.alloc.Global.{Global}
use Rattle.flow_model.specs.Polish.{graph_of}
use Rattle.flow_pieces.specs.PieceGraphs.{mark}
use Rattle.flow_matches.specs.declared.leaves.Leave.{Leave}
use Rattle.flow_matches.specs.Working.SideViews.{leave_trees, blocks_of_arrivals}
use Rattle.flow_matches.specs.Working.WholeSides.{are_all_whole_leaves, AddsWholeBlocks}
use Rattle.flow_matches.proofs.side.push_arrivals.Given as goal

-- the blocks of the arrivals that are left follow
abbrev pub invariant-loop-leaves : goal.invariant-loop-leaves
invariant-loop-leaves l = record {
  added : graph_of l.list.items ++ blocks_of_arrivals (length (graph_of l.list.items)) (map (λ (v : Vec Leave Global). leave_trees v.items) (drop l.leaves-index l.side.leaves.items)) (mark l.side.otherwise ∷ [])
      ≡ graph_of l.initial.list.items ++ blocks_of_arrivals (length (graph_of l.initial.list.items)) (map (λ (v : Vec Leave Global). leave_trees v.items) l.side.leaves.items) (mark l.side.otherwise ∷ []);
  whole : are_all_whole_leaves l.side.leaves.items ≡ true → AddsWholeBlocks l.initial.list l.list;
}
