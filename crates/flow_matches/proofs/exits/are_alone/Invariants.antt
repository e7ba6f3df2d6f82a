use Rattle.std.proofs.Common.{◌≡◌, true, take}
use Rattle.std.specs.List.{list_all}
use Rattle.flow_pieces.specs.PieceGraphs.{has_block}
use Rattle.flow_pieces.specs.SameTrees.{is_same_bool}
use Rattle.flow_matches.specs.Working.ExitViews.{chosen}
use Rattle.flow_matches.proofs.exits.are_alone.Given as goal

-- no candidate so far has a block of one set alone
abbrev pub invariant-loop-number : goal.invariant-loop-number
invariant-loop-number l = list_all (λ d. is_same_bool (has_block l.rows d.before) (has_block l.columns d.after)) (chosen l.matches (take l.number-index l.candidates)) ≡ true
