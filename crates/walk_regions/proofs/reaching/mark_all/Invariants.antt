use Rattle.std.specs.Prelude.{ℕ, List}
use Rattle.kat_model.specs.Members.{Has}
use Rattle.test_diagrams.specs.Functions.{IsDiagramId, KeepsFunctions}
use Rattle.walk_regions.specs.Entries.{EntryParts}
use Rattle.walk_regions.specs.Reaching.{Brings, AreMarks}
use Rattle.walk_regions.proofs.reaching.mark_all.Given as goal

abbrev pub invariant-loop-term : goal.invariant-loop-term
invariant-loop-term l = record {
  kept : KeepsFunctions l.initial.diagrams l.diagrams;
  ids : (id : ℕ) → Has l.marks id → IsDiagramId l.diagrams id;
  marks : (es : List EntryParts) (set : List ℕ) → AreMarks l.initial.diagrams es set l.initial.marks → Brings l.initial.diagrams es set l.fn.test l.fn.terms → AreMarks l.diagrams es set l.marks;
}
