use Rattle.std.proofs.Common.{◌≡◌, false, take}
use Rattle.flow_model.specs.Matches.{matches_of}
use Rattle.flow_pieces.specs.SameTexts.{are_matched_plainly}
use Rattle.flow_matches.proofs.text.are_matched_plainly.Given as goal

-- no match so far is a plain one of both blocks
abbrev pub invariant-loop-one : goal.invariant-loop-one
invariant-loop-one l = are_matched_plainly (matches_of (take l.one-index l.matches)) l.before l.after ≡ false
