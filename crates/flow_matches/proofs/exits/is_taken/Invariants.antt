use Rattle.std.proofs.Common.{◌≡◌, false, List, take}
use Rattle.std.specs.List.{list_any}
use Rattle.flow_model.specs.Matches.{match_of}
use Rattle.flow_model.specs.declared.block_match.BlockMatch.{BlockMatch}
use Rattle.flow_pieces.specs.Exits.{has_match}
use Rattle.flow_matches.specs.Working.ExitViews.{exit_trees}
use Rattle.flow_matches.proofs.exits.is_taken.Given as goal

-- no exit so far pairs the blocks
abbrev pub invariant-loop-exit : goal.invariant-loop-exit
invariant-loop-exit l = (matches : List BlockMatch) → list_any (λ e. has_match e (match_of l.one)) (exit_trees matches (take l.exit-index l.exits)) ≡ false
