use Rattle.std.proofs.Common.{take}
use Rattle.kat_model.specs.Members.{Has}
use Rattle.walk_regions.specs.declared.parts.Part.{Part}
use Rattle.walk_regions.specs.Entries.{EntryParts}
use Rattle.walk_regions.specs.Parts.{HasPartAt}
use Rattle.walk_under.specs.Working.IdEntries.{IsNextPart}
use Rattle.walk_under.specs.Working.Walking.{WalkContext, IsAtSource, IsVisited}
use Rattle.walk_under.proofs.walk.TestedWorklist.visit.Given as goal

abbrev pub invariant-loop-part : goal.invariant-loop-part
invariant-loop-part l =
    (s : WalkContext) (from : EntryParts) → IsAtSource s l.initial.self l.source from → ((p : Part) → Has l.part-items p → IsNextPart s.store l.initial.self.diagrams from l.source.test l.source.act p)
    → IsVisited s l.initial.self l.self l.source from (λ atom. HasPartAt l.initial.self.diagrams (take l.part-index l.part-items) atom)
