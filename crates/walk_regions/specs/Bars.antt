-- The atoms to which the moves by one action lead. A bar blocks the moves from the atoms of one test to those of
-- another.
use Rattle.std.specs.Prelude.{◌≡◌, ◌<◌, ℕ, Bool, not, ◌&&◌, nat_eq, List, length, take, slice_get, slice_set, Some, IsTrue}
use Rattle.kat_model.specs.Members.{Has}
use Rattle.kat_model.specs.Steps.{Atom}
use Rattle.test_diagrams.specs.Functions.{DiagramsParts, value_of, IsDiagramId, IsAtomOf, IsDiagramOf, IsIndependent}
use Rattle.walk_regions.specs.declared.bars.Bar.{Bar}
use Rattle.walk_regions.specs.declared.bars.Bars.{Bars}
use Rattle.walk_regions.specs.declared.bars.ImageKey.{ImageKey}
use Rattle.walk_regions.specs.declared.bars.RegionParts.{RegionParts}

-- the second atom is the first with some of the tests set to new values
pub data IsReset (tests : List ℕ) : Atom → Atom → Type 0 where
  unchanged : (a : Atom) → IsReset tests a a
  reset : (a b : Atom) (t : ℕ) (v : Bool) → Has tests t → IsReset tests (slice_set a t v) b → IsReset tests a b

-- each atom of `whole` satisfies the diagram, and each atom of the diagram becomes one of `whole` if some of the tests
-- are set to new values
pub record IsForgotten (d : DiagramsParts) (whole : ℕ) (tests : List ℕ) (id : ℕ) : Type 0 where
  pub is_id : IsDiagramId d id
  pub there : (a : Atom) → IsAtomOf d a → IsTrue (value_of d id a) → (b : Atom) × IsReset tests a b × IsAtomOf d b × IsTrue (value_of d whole b)
  pub back : (a : Atom) → IsAtomOf d a → IsTrue (value_of d whole a) → IsTrue (value_of d id a)

-- The region in two parts: the atoms at which the bar starts and those at which it does not, each with the fresh tests
-- of the bar forgotten.
pub record IsSplit (d : DiagramsParts) (r : Bar) (region : ℕ) (p : RegionParts) : Type 0 where
  pub start : ℕ
  pub other : ℕ
  pub is_start : IsDiagramOf d start (λ a. value_of d region a && value_of d r.from a)
  pub is_other : IsDiagramOf d other (λ a. value_of d region a && not (value_of d r.from a))
  pub inside : IsForgotten d start r.fresh.items p.inside
  pub outside : IsForgotten d other r.fresh.items p.outside

-- some bar blocks the move from the first atom to the second
abbrev pub IsBarred : DiagramsParts → List Bar → Atom → Atom → Type 0
IsBarred d bars a b = (r : Bar) × Has bars r × IsTrue (value_of d r.from a) × IsTrue (value_of d r.to b)

-- a move that no bar blocks leads from an atom of the region to this atom
pub record IsLedTo (d : DiagramsParts) (bars : List Bar) (region : ℕ) (b : Atom) : Type 0 where
  pub before : Atom
  pub fits : IsAtomOf d before
  pub there : IsTrue (value_of d region before)
  pub free : IsBarred d bars before b → ⊥

-- the diagram is true exactly at the atoms to which a move that no bar blocks leads from the region
pub record IsImageOf (d : DiagramsParts) (bars : List Bar) (region id : ℕ) : Type 0 where
  pub is_id : IsDiagramId d id
  pub there : (b : Atom) → IsAtomOf d b → IsTrue (value_of d id b) → IsLedTo d bars region b
  pub back : (b : Atom) → IsAtomOf d b → IsLedTo d bars region b → IsTrue (value_of d id b)

-- the diagram is true exactly at the atoms of the region from which the bar does not block the move to this atom
pub record AreAtomsPast (c d : DiagramsParts) (r : Bar) (region : ℕ) (after : Atom) (id : ℕ) : Type 0 where
  pub is_id : IsDiagramId d id
  pub there : (a : Atom) → IsAtomOf d a → IsTrue (value_of d id a) → IsTrue (value_of c region a) × (IsTrue (value_of c r.from a) → IsTrue (value_of c r.to after) → ⊥)
  pub back : (a : Atom) → IsAtomOf d a → IsTrue (value_of c region a) → (IsTrue (value_of c r.from a) → IsTrue (value_of c r.to after) → ⊥) → IsTrue (value_of d id a)

-- the diagram is true exactly at the atoms of the region from which none of the first n bars blocks the move to this
-- atom
pub record AreSources (d : DiagramsParts) (bars : List Bar) (region : ℕ) (after : Atom) (n id : ℕ) : Type 0 where
  pub is_id : IsDiagramId d id
  pub there : (a : Atom) → IsAtomOf d a → IsTrue (value_of d id a) → IsTrue (value_of d region a) × (IsBarred d (take n bars) a after → ⊥)
  pub back : (a : Atom) → IsAtomOf d a → IsTrue (value_of d region a) → (IsBarred d (take n bars) a after → ⊥) → IsTrue (value_of d id a)

-- the tests are tests of the collection, and no bar before place n depends on them
abbrev pub AreUnasked : DiagramsParts → List Bar → ℕ → List ℕ → Type 0
AreUnasked d bars n tests = (t : ℕ) → Has tests t → (t < d.tests) × ((r : Bar) → Has (take n bars) r → IsIndependent d r.from t)

-- the bars are diagrams, and no earlier bar depends on the fresh tests of a bar
pub record AreBars (d : DiagramsParts) (bars : List Bar) : Type 0 where
  pub froms : (r : Bar) → Has bars r → IsDiagramId d r.from
  pub tos : (r : Bar) → Has bars r → IsDiagramId d r.to
  pub fresh : (i : ℕ) (r : Bar) → slice_get bars i ≡ Some r → AreUnasked d bars i r.fresh.items

-- each image in the table is correct
abbrev pub AreImages : DiagramsParts → List Bar → List (ImageKey × ℕ) → Type 0
AreImages d bars images = (e : ImageKey × ℕ) → Has images e → IsDiagramId d e.0.region × IsImageOf d (take e.0.count bars) e.0.region e.1

-- the bars of an action are valid, no bar depends on the unasked tests, and the stored images are correct
pub record AreSoundBars (d : DiagramsParts) (b : Bars) : Type 0 where
  pub bars : AreBars d b.bars.items
  pub unasked : AreUnasked d b.bars.items (length b.bars.items) b.unasked.items
  pub images : AreImages d b.bars.items b.images.entries

-- whether two states are equal
abbrev pub same_key : ImageKey → ImageKey → Bool
same_key s t = nat_eq s.region t.region && nat_eq s.count t.count
