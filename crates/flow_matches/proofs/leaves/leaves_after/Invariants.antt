use Rattle.std.proofs.Common.{◌≡◌, ◌++◌, true, drop}
use Rattle.std.specs.Prelude.{All}
use Rattle.flow_model.specs.WholeMatches.{IsWholeMatch}
use Rattle.flow_pieces.specs.PieceGraphs.{Exit, leaves_from, has_block, leave_after}
use Rattle.flow_matches.specs.Working.ExitViews.{exit_trees}
use Rattle.flow_matches.specs.Working.SideViews.{leave_trees}
use Rattle.flow_matches.specs.Working.WholeSides.{are_whole_leaves}
use Rattle.flow_matches.proofs.leaves.leaves_after.Given as goal

-- the exits that are left follow
abbrev pub invariant-loop-place : goal.invariant-loop-place
invariant-loop-place l = record {
  trees : leave_trees l.leaves.items ++ leaves_from leave_after (λ (e : Exit). has_block e.columns l.block) l.place (drop l.place (exit_trees l.matches l.exits))
      ≡ leaves_from leave_after (λ (e : Exit). has_block e.columns l.block) 0 (exit_trees l.matches l.exits);
  whole : All IsWholeMatch l.matches → are_whole_leaves l.leaves.items ≡ true;
}
