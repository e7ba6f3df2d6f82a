use Rattle.std.proofs.Common.{ℕ, List, [], ◌∷◌, ◌++◌, take}
use Rattle.kat_model.specs.Steps.{Atom}
use Rattle.test_diagrams.specs.Functions.{IsAtomOf, KeepsFunctions}
use Rattle.walk_pairs.specs.declared.items.Item.{Item}
use Rattle.walk_regions.specs.Parts.{AreParts, HavePartIds, HasPartAt}
use Rattle.walk_regions.proofs.parts.split_parts.Given as goal

abbrev pub invariant-loop-part : goal.invariant-loop-part
invariant-loop-part l = record {
  kept : KeepsFunctions l.initial.diagrams l.diagrams;
  ids : HavePartIds l.diagrams l.list.items;
  parts : (items : List Item) (whole : ℕ) → AreParts l.initial.diagrams items whole l.parts → AreParts l.diagrams (items ++ l.item ∷ []) whole l.list.items;
  covers : (atom : Atom) → IsAtomOf l.diagrams atom → HasPartAt l.initial.diagrams (take l.part-index l.parts) atom → HasPartAt l.diagrams l.list.items atom;
}
