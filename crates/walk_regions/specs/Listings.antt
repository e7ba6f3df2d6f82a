-- What is computed of listed pairs: the atoms at which none has given sets, those at which one has the sets and the level
-- of a pair, and the place of such a pair.
use Rattle.std.specs.Prelude.{◌≡◌, ℕ, List, slice_get, Some, IsTrue}
use Rattle.kat_model.specs.Members.{Has}
use Rattle.kat_model.specs.Steps.{Atom}
use Rattle.test_diagrams.specs.Functions.{DiagramsParts, value_of, IsDiagramId, IsAtomOf}
use Rattle.walk_regions.specs.Allowance.{IsWithin}
use Rattle.walk_regions.specs.Entries.{EntryParts}

-- the atoms of the old diagram, without those of the entry if it has these sets
pub record IsWithoutPair (c d : DiagramsParts) (e : EntryParts) (left right : List ℕ) (old id : ℕ) : Type 0 where
  pub is_id : IsDiagramId d id
  pub within : (atom : Atom) → IsAtomOf d atom → IsTrue (value_of d id atom) → IsTrue (value_of c old atom)
  pub apart : e.left ≡ left → e.right ≡ right → (atom : Atom) → IsAtomOf d atom → IsTrue (value_of d id atom) → IsTrue (value_of c e.test atom) → ⊥
  pub rest : (atom : Atom) → IsAtomOf d atom → IsTrue (value_of c old atom) → (IsTrue (value_of d id atom) → ⊥) → (e.left ≡ left) × (e.right ≡ right) × IsTrue (value_of c e.test atom)

-- the part of the whole at whose atoms no listed entry has these sets
pub record IsFreshPart (d : DiagramsParts) (es : List EntryParts) (left right : List ℕ) (whole id : ℕ) : Type 0 where
  pub is_id : IsDiagramId d id
  pub within : IsWithin d id whole
  pub apart : (e : EntryParts) → Has es e → e.left ≡ left → e.right ≡ right → (atom : Atom) → IsAtomOf d atom → IsTrue (value_of d id atom) → IsTrue (value_of d e.test atom) → ⊥
  pub rest : (atom : Atom) → IsAtomOf d atom → IsTrue (value_of d whole atom) → (IsTrue (value_of d id atom) → ⊥)
      → (e : EntryParts) × Has es e × (e.left ≡ left) × (e.right ≡ right) × IsTrue (value_of d e.test atom)

-- the entry has the sets and the level of the other
pub record IsWith (e other : EntryParts) : Type 0 where
  pub left : e.left ≡ other.left
  pub right : e.right ≡ other.right
  pub level : e.level ≡ other.level

-- one of the entries has the sets and the level of the other, and was reached at the atom
pub record IsLevelAtom (d : DiagramsParts) (es : List EntryParts) (other : EntryParts) (atom : Atom) : Type 0 where
  pub entry : EntryParts
  pub member : Has es entry
  pub is : IsWith entry other
  pub holds : IsTrue (value_of d entry.test atom)

-- the diagram is true exactly at the atoms at which some entry has the sets and the level of the other
pub record AreLevelAtoms (d : DiagramsParts) (es : List EntryParts) (other : EntryParts) (id : ℕ) : Type 0 where
  pub is_id : IsDiagramId d id
  pub there : (atom : Atom) → IsAtomOf d atom → IsTrue (value_of d id atom) → IsLevelAtom d es other atom
  pub back : (atom : Atom) → IsAtomOf d atom → IsLevelAtom d es other atom → IsTrue (value_of d id atom)

-- the entry at the place has the sets and the level of the other, and was reached at the atom
pub record IsPlaceWith (d : DiagramsParts) (es : List EntryParts) (other : EntryParts) (atom : Atom) (place : ℕ) : Type 0 where
  pub entry : EntryParts
  pub at : slice_get es place ≡ Some entry
  pub is : IsWith entry other
  pub holds : IsTrue (value_of d entry.test atom)
