use Rattle.std.proofs.Common.{◌≡◌, false, take}
use Rattle.flow_model.specs.Matches.{match_of}
use Rattle.flow_matches.specs.Working.ExitViews.{chosen, noted_at, has_like_by}
use Rattle.flow_matches.proofs.exits.has_like.Given as goal

-- no candidate so far is like the match
abbrev pub invariant-loop-number : goal.invariant-loop-number
invariant-loop-number l = has_like_by (noted_at l.tables l.variables) (chosen l.matches (take l.number-index l.candidates)) (match_of l.own) l.pair.0 l.pair.1 ≡ false
