-- The closure of a set of terms under pairs, at each atom. A property of ids represents a set that contains the set's
-- congruence closure.
use Rattle.std.specs.Prelude.{◌≡◌, ◌⊎◌, ◌<◌, ℕ, Bool, List, [], ◌∷◌, slice_get, Option, Some, IsTrue, IsFalse}
use Rattle.kat_model.specs.Members.{Has}
use Rattle.kat_model.specs.Steps.{Atom}
use Rattle.test_diagrams.specs.Functions.{DiagramsParts, value_of, IsDiagramId, IsAtomOf}
use Rattle.walk_regions.specs.Entries.{EntryParts}

-- the property holds for each id
abbrev pub AllHold : (ℕ → Bool) → List ℕ → Type 0
AllHold p ids = (t : ℕ) → Has ids t → IsTrue (p t)

-- for each pair that was reached at the atom, the property holds for one side if and only if it holds for the other
abbrev pub IsClosedUnder : DiagramsParts → List EntryParts → Atom → (ℕ → Bool) → Type 0
IsClosedUnder d es atom p =
    (e : EntryParts) → Has es e → IsTrue (value_of d e.test atom)
    → (AllHold p e.left → AllHold p e.right) × (AllHold p e.right → AllHold p e.left)

-- at each atom of the diagram, the closure of the set under the pairs contains the targets
abbrev pub Brings : DiagramsParts → List EntryParts → List ℕ → ℕ → List ℕ → Type 0
Brings d es set id targets =
    (atom : Atom) → IsAtomOf d atom → (p : ℕ → Bool) → IsClosedUnder d es atom p → AllHold p set → IsTrue (value_of d id atom) → AllHold p targets

-- the tests of the pairs and the marks are diagrams; at the atoms of an id's mark, the closure of the set under the
-- pairs contains the id
pub record AreMarks (d : DiagramsParts) (es : List EntryParts) (set marks : List ℕ) : Type 0 where
  pub tests : (e : EntryParts) → Has es e → IsDiagramId d e.test
  pub ids : (t id : ℕ) → slice_get marks t ≡ Some id → IsDiagramId d id
  pub brings : (t id : ℕ) → slice_get marks t ≡ Some id → Brings d es set id (t ∷ [])

-- at the atom, the closure of the set under the pairs contains the targets or the universal id
abbrev pub BringsAt : DiagramsParts → List EntryParts → Option ℕ → List ℕ → List ℕ → Atom → Type 0
BringsAt d es universal set targets atom =
    (p : ℕ → Bool) → IsClosedUnder d es atom p → AllHold p set → AllHold p targets ⊎ ((u : ℕ) × (universal ≡ Some u) × IsTrue (p u))

-- a diagram that is true only at atoms of the whole
pub record IsPartOf (d : DiagramsParts) (whole id : ℕ) : Type 0 where
  pub is_id : IsDiagramId d id
  pub within : (atom : Atom) → IsAtomOf d atom → IsTrue (value_of d id atom) → IsTrue (value_of d whole atom)

-- at each atom of the diagram, the closure of the set under the pairs contains the first n terms
abbrev pub BringsFirst : DiagramsParts → List EntryParts → List ℕ → ℕ → List ℕ → ℕ → Type 0
BringsFirst d es set id terms n = (k t : ℕ) → k < n → slice_get terms k ≡ Some t → Brings d es set id (t ∷ [])

-- at each atom of the diagram, the closure of the set under the pairs contains the targets or the universal id
pub record IsReachedAt (d : DiagramsParts) (es : List EntryParts) (universal : Option ℕ) (set targets : List ℕ) (id : ℕ) : Type 0 where
  pub at : (atom : Atom) → IsAtomOf d atom → IsTrue (value_of d id atom) → BringsAt d es universal set targets atom

-- a part of the whole; at the other atoms of the whole, the closure of each side's sure terms contains the open terms
-- of the other side
pub record IsOpenPart (d : DiagramsParts) (es : List EntryParts) (universal : Option ℕ) (left right open_left open_right : List ℕ) (whole id : ℕ) : Type 0 where
  pub part : IsPartOf d whole id
  pub lefts : (atom : Atom) → IsAtomOf d atom → IsTrue (value_of d whole atom) → IsFalse (value_of d id atom) → BringsAt d es universal right open_left atom
  pub rights : (atom : Atom) → IsAtomOf d atom → IsTrue (value_of d whole atom) → IsFalse (value_of d id atom) → BringsAt d es universal left open_right atom
