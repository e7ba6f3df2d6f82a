use Rattle.std.proofs.Common.{◌≡◌, List, drop}
use Rattle.flow_model.specs.declared.block_match.BlockMatch.{BlockMatch}
use Rattle.flow_pieces.specs.Exits.{is_ambiguous}
use Rattle.flow_matches.specs.Working.ExitViews.{exit_trees}
use Rattle.flow_matches.proofs.exits.shared_column.Given as goal

-- none of the exits before shares a column with a later one
abbrev pub invariant-loop-place : goal.invariant-loop-place
invariant-loop-place l = (matches : List BlockMatch) → is_ambiguous (exit_trees matches l.exits) ≡ is_ambiguous (drop l.place (exit_trees matches l.exits))
