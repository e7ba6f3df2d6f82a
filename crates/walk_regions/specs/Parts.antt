-- Parts of a region; from all atoms of a part an action leads to the same terms.
use Rattle.std.specs.Prelude.{◌≡◌, ◌↔◌, ℕ, Bool, if◌then◌else◌, List, [], ◌∷◌, ◌++◌, IsTrue, IsFalse}
use Rattle.kat_model.specs.Members.{Has}
use Rattle.kat_model.specs.Steps.{Atom}
use Rattle.test_diagrams.specs.Functions.{DiagramsParts, value_of, IsDiagramId, IsAtomOf}
use Rattle.walk_pairs.specs.Items.{chosen}
use Rattle.walk_pairs.specs.Outputs.{IsSomewhereTrue}
use Rattle.walk_pairs.specs.declared.items.Item.{Item}
use Rattle.walk_pairs.specs.declared.items.Side.TheVariants.{Left, Right}
use Rattle.walk_regions.specs.declared.parts.Part.{Part}
use Rattle.walk_regions.specs.Allowance.{IsWithin}

-- the terms, with the target appended if the value is true
abbrev pub with_if : Bool → List ℕ → ℕ → List ℕ
with_if value terms target = if value then terms ++ target ∷ [] else terms

-- the diagram is true exactly at the atoms of the region at which the guard has the value
pub record IsRegionWhere (c d : DiagramsParts) (region guard : ℕ) (value : Bool) (id : ℕ) : Type 0 where
  pub is_id : IsDiagramId d id
  pub given : (atom : Atom) → IsAtomOf d atom → IsTrue (value_of d id atom) ↔ (IsTrue (value_of c region atom) × (value_of c guard atom ≡ value))

-- The part lies within the whole, and from each of its atoms the items lead to exactly the part's terms.
pub record IsPart (d : DiagramsParts) (items : List Item) (whole : ℕ) (p : Part) : Type 0 where
  pub is_id : IsDiagramId d p.region
  pub is_whole : IsDiagramId d whole
  pub guards : (i : Item) → Has items i → IsDiagramId d i.left × IsDiagramId d i.right
  pub within : IsWithin d p.region whole
  pub lefts : (atom : Atom) → IsAtomOf d atom → IsTrue (value_of d p.region atom) → p.left.items ≡ chosen d Left items atom
  pub rights : (atom : Atom) → IsAtomOf d atom → IsTrue (value_of d p.region atom) → p.right.items ≡ chosen d Right items atom

-- the parts are parts of the whole, and none is empty
abbrev pub AreParts : DiagramsParts → List Item → ℕ → List Part → Type 0
AreParts d items whole parts = (p : Part) → Has parts p → IsPart d items whole p × IsSomewhereTrue d p.region

abbrev pub HavePartIds : DiagramsParts → List Part → Type 0
HavePartIds d parts = (p : Part) → Has parts p → IsDiagramId d p.region

-- some part contains the atom
pub record HasPartAt (d : DiagramsParts) (parts : List Part) (atom : Atom) : Type 0 where
  pub part : Part
  pub member : Has parts part
  pub holds : IsTrue (value_of d part.region atom)

-- the part contains the atom, and the guards of the item have these values there
pub record IsCase (d : DiagramsParts) (p : Part) (i : Item) (left right : Bool) (atom : Atom) : Type 0 where
  pub there : IsTrue (value_of d p.region atom)
  pub on_left : value_of d i.left atom ≡ left
  pub on_right : value_of d i.right atom ≡ right

-- at each atom at which the new diagram is false, the old one is false and the guards of the item are equal
pub record Distinguishes (c d : DiagramsParts) (old : ℕ) (i : Item) (id : ℕ) : Type 0 where
  pub is_id : IsDiagramId d id
  pub was : (atom : Atom) → IsAtomOf d atom → IsFalse (value_of d id atom) → IsFalse (value_of c old atom)
  pub alike : (atom : Atom) → IsAtomOf d atom → IsFalse (value_of d id atom) → value_of c i.left atom ≡ value_of c i.right atom
