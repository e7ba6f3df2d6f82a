use Rattle.std.proofs.Common.{take}
use Rattle.std.specs.Prelude.{IsTrue}
use Rattle.kat_model.specs.Steps.{Atom}
use Rattle.test_diagrams.specs.Functions.{value_of, IsAtomOf, KeepsFunctions}
use Rattle.walk_regions.specs.Parts.{AreParts, HasPartAt}
use Rattle.walk_regions.proofs.parts.parts_of.Given as goal

abbrev pub invariant-loop-item : goal.invariant-loop-item
invariant-loop-item l = record {
  kept : KeepsFunctions l.initial.diagrams l.diagrams;
  parts : AreParts l.diagrams (take l.item-index l.items) l.fn.region l.parts.items;
  covers : (atom : Atom) → IsAtomOf l.diagrams atom → IsTrue (value_of l.diagrams l.fn.region atom) → HasPartAt l.diagrams l.parts.items atom;
}
