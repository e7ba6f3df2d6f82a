use Rattle.std.specs.Prelude.{ℕ, List}
use Rattle.kat_model.specs.Members.{Has}
use Rattle.test_diagrams.specs.Functions.{IsDiagramId, KeepsFunctions}
use Rattle.walk_regions.specs.Reaching.{AreMarks}
use Rattle.walk_regions.proofs.reaching.saturate.Given as goal

abbrev pub invariant-loop : goal.invariant-loop
invariant-loop l = record {
  kept : KeepsFunctions l.initial.diagrams l.diagrams;
  ids : (id : ℕ) → Has l.marks id → IsDiagramId l.diagrams id;
  marks : (set : List ℕ) → AreMarks l.initial.diagrams l.entries set l.initial.marks → AreMarks l.diagrams l.entries set l.marks;
}
