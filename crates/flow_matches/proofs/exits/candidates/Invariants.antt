use Rattle.std.proofs.Common.{◌≡◌, ◌&&◌, false, length, take, slice_index_or}
use Rattle.std.specs.List.{filter}
use Rattle.flow_model.specs.Matches.{matches_of}
use Rattle.flow_matches.specs.Tables.{AreBelow}
use Rattle.flow_matches.specs.Working.ExitViews.{chosen}
use Rattle.flow_matches.proofs.exits.candidates.Given as goal

-- the candidates among the matches so far
abbrev pub invariant-loop-number : goal.invariant-loop-number
invariant-loop-number l = record {
  numbers : AreBelow (length l.matches) l.found.items;
  matches : chosen l.matches l.found.items ≡ filter (λ c. slice_index_or l.before.marks.items c.before false && slice_index_or l.after.marks.items c.after false) (matches_of (take l.number l.matches));
}
