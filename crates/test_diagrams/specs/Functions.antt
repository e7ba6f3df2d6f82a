-- The functions that the diagrams of a collection represent.
use Rattle.std.specs.Prelude.{◌≡◌, ◌≢◌, ◌<◌, ℕ, Bool, false, true, if◌then◌else◌, List, length, slice_index_or, slice_set}
use Rattle.kat_model.specs.CourseOfValues.{course_of_values}
use Rattle.kat_model.specs.Steps.{Atom}
use Rattle.test_diagrams.specs.declared.diagrams.Node.{Node}
use Rattle.test_diagrams.specs.declared.diagrams.Node.TheVariants.{Constant, Branch}

-- binary decision diagrams over `tests` tests (Bryant 1986); the id of a diagram is the place of its node
pub record DiagramsParts : Type 0 where
  pub tests : ℕ
  pub nodes : List Node

-- the value of a node at an atom, over the values of the earlier nodes
abbrev pub node_value : Atom → List Bool → Node → Bool
node_value atom earlier (Constant value) = value
node_value atom earlier (Branch test low high) = slice_index_or earlier (if slice_index_or atom test false then high else low) false

-- the value of an id at an atom
abbrev pub value_of : DiagramsParts → ℕ → Atom → Bool
value_of d id atom = slice_index_or (course_of_values (node_value atom) d.nodes) id false

-- the number is an id of the collection
abbrev pub IsDiagramId : DiagramsParts → ℕ → Type 0
IsDiagramId d id = id < length d.nodes

-- the atom assigns each test of the collection
abbrev pub IsAtomOf : DiagramsParts → Atom → Type 0
IsAtomOf d atom = length atom ≡ d.tests

-- the id is that of a diagram of the function
pub record IsDiagramOf (d : DiagramsParts) (id : ℕ) (function : Atom → Bool) : Type 0 where
  pub in_range : IsDiagramId d id
  pub value : (atom : Atom) → IsAtomOf d atom → value_of d id atom ≡ function atom

-- two ids have the same function
abbrev pub SameFunction : DiagramsParts → ℕ → ℕ → Type 0
SameFunction d i j = (atom : Atom) → IsAtomOf d atom → value_of d i atom ≡ value_of d j atom

-- two ids have different values at some atom
pub record IsApart (d : DiagramsParts) (i j : ℕ) : Type 0 where
  pub atom : Atom
  pub fits : IsAtomOf d atom
  pub apart : value_of d i atom ≢ value_of d j atom

-- the function has the same value at all atoms
pub record IsConstant (d : DiagramsParts) (id : ℕ) : Type 0 where
  pub constant : Bool
  pub value : (atom : Atom) → IsAtomOf d atom → value_of d id atom ≡ constant

-- the value of the function changes with the value of the test at some atom
pub record DependsOn (d : DiagramsParts) (id test : ℕ) : Type 0 where
  pub atom : Atom
  pub fits : IsAtomOf d atom
  pub changes : value_of d id (slice_set atom test false) ≢ value_of d id (slice_set atom test true)

-- the value of the function changes with the value of the test at no atom
abbrev pub IsIndependent : DiagramsParts → ℕ → ℕ → Type 0
IsIndependent d id test = (atom : Atom) → IsAtomOf d atom → (value : Bool) → value_of d id (slice_set atom test value) ≡ value_of d id atom

-- the test is the least one on which the function depends
pub record IsLeastTest (d : DiagramsParts) (id test : ℕ) : Type 0 where
  pub in_range : test < d.tests
  pub depends : DependsOn d id test
  pub least : (other : ℕ) → other < test → IsIndependent d id other

-- old ids stay ids and keep their functions, and the number of tests is unchanged
pub record KeepsFunctions (old new : DiagramsParts) : Type 0 where
  pub tests : new.tests ≡ old.tests
  pub ids : (id : ℕ) → IsDiagramId old id → IsDiagramId new id
  pub values : (id : ℕ) → IsDiagramId old id → (atom : Atom) → value_of new id atom ≡ value_of old id atom
