use Rattle.std.proofs.Common.{◌≡◌, take}
use Rattle.flow_model.specs.Matches.{match_of}
use Rattle.flow_pieces.specs.Exits.{rows_with}
use Rattle.flow_matches.specs.Working.ExitViews.{chosen}
use Rattle.flow_matches.proofs.exits.rows_with.Given as goal

-- the blocks of the candidates so far
abbrev pub invariant-loop-number : goal.invariant-loop-number
invariant-loop-number l = l.rows.items ≡ rows_with (chosen l.matches (take l.number-index l.candidates)) (match_of l.own)
