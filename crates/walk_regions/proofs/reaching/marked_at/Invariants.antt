use Rattle.std.specs.Prelude.{ℕ, List}
use Rattle.test_diagrams.specs.Functions.{KeepsFunctions}
use Rattle.walk_regions.specs.Entries.{EntryParts}
use Rattle.walk_regions.specs.Reaching.{AreMarks, IsPartOf, BringsFirst}
use Rattle.walk_regions.proofs.reaching.marked_at.Given as goal

abbrev pub invariant-loop-term : goal.invariant-loop-term
invariant-loop-term l = record {
  kept : KeepsFunctions l.initial.diagrams l.diagrams;
  part : IsPartOf l.diagrams l.fn.within l.id;
  brings : (es : List EntryParts) (set : List ℕ) → AreMarks l.initial.diagrams es set l.marks → BringsFirst l.diagrams es set l.id l.terms l.term-index;
}
