use Rattle.std.proofs.Common.{◌≡◌, ◌≤◌, List, drop}
use Rattle.std.specs.List.{list_any}
use Rattle.flow_model.specs.declared.block_match.BlockMatch.{BlockMatch}
use Rattle.flow_pieces.specs.Exits.{share_column}
use Rattle.flow_matches.specs.Working.ExitViews.{exit_tree, exit_trees}
use Rattle.flow_matches.proofs.exits.shared_with.Given as goal

-- none of the exits before shares a column
abbrev pub invariant-loop-place : goal.invariant-loop-place
invariant-loop-place l = record {
  later : l.from ≤ l.place;
  none : (matches : List BlockMatch) → list_any (share_column (exit_tree matches l.own)) (drop l.from (exit_trees matches l.exits)) ≡ list_any (share_column (exit_tree matches l.own)) (drop l.place (exit_trees matches l.exits));
}
