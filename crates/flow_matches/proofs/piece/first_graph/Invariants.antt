use Rattle.std.proofs.Common.{◌≡◌, true, map, take}
use Rattle.std.specs.Prelude.{Vec, All}
use Rattle.std.specs.declared.alloc.Global.{Global}
use Rattle.flow_model.specs.WholeMatches.{IsWholeMatch}
use Rattle.flow_pieces.specs.PieceGraphs.{Exit, leaves_from, has_block, leave_before}
use Rattle.flow_matches.specs.declared.leaves.Leave.{Leave}
use Rattle.flow_matches.specs.Working.ExitViews.{exit_trees}
use Rattle.flow_matches.specs.Working.SideViews.{leave_trees}
use Rattle.flow_matches.specs.Working.WholeSides.{are_all_whole_leaves}
use Rattle.flow_matches.proofs.piece.first_graph.Given as goal

-- the exits at the arrivals so far
abbrev pub invariant-loop-block : goal.invariant-loop-block
invariant-loop-block l = record {
  leaves : map (λ (v : Vec Leave Global). leave_trees v.items) l.leaves.items
      ≡ map (λ k. leaves_from leave_before (λ (e : Exit). has_block e.rows k) 0 (exit_trees l.matches l.exits)) (take l.block-index l.block-items);
  whole : All IsWholeMatch l.matches → are_all_whole_leaves l.leaves.items ≡ true;
}
