use Rattle.std.proofs.Common.{◌≡◌, true, take}
use Rattle.std.specs.List.{list_all}
use Rattle.flow_model.specs.Matches.{match_of}
use Rattle.flow_matches.specs.Working.ExitViews.{chosen, noted_at, has_like_by}
use Rattle.flow_matches.proofs.exits.has_row.Given as goal

-- each column so far is paired with the row
abbrev pub invariant-loop-column : goal.invariant-loop-column
invariant-loop-column l = list_all (has_like_by (noted_at l.tables l.variables) (chosen l.matches l.candidates) (match_of l.own) l.row) (take l.column-index l.columns) ≡ true
