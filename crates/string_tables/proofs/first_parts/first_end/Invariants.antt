use Rattle.std.proofs.Common.{◌≡◌, ◌<◌, ◌≤◌, ℕ, length, false}
use Rattle.kat_model.specs.Trees.{kat_tree}
use Rattle.string_tables.specs.Working.Marks.{mark_tree}
use Rattle.string_tables.specs.Parts.{ends_at}
use Rattle.string_tables.proofs.MarkedRuns.{AreMarksAt}
use Rattle.string_tables.proofs.first_parts.first_end.Given as goal

-- the marks at position k, and no end before it
abbrev pub invariant-loop-k : goal.invariant-loop-k
invariant-loop-k l = record {
  within : l.k ≤ length l.moves;
  at : AreMarksAt l.string (kat_tree l.term) l.from l.to l.k (mark_tree l.marks);
  none : (j : ℕ) → l.after ≤ j → j < l.k → ends_at l.string (kat_tree l.term) l.from l.to j ≡ false;
}
