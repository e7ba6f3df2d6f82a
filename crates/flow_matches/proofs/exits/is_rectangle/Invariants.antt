use Rattle.std.proofs.Common.{◌≡◌, true, take}
use Rattle.std.specs.List.{list_all}
use Rattle.flow_model.specs.Matches.{match_of}
use Rattle.flow_matches.specs.Working.ExitViews.{chosen, noted_at, has_like_by}
use Rattle.flow_matches.proofs.exits.is_rectangle.Given as goal

-- each row so far is paired with each column
abbrev pub invariant-loop-row : goal.invariant-loop-row
invariant-loop-row l = list_all (λ k. list_all (has_like_by (noted_at l.tables l.variables) (chosen l.matches l.candidates) (match_of l.own) k) l.columns) (take l.row-index l.rows) ≡ true
