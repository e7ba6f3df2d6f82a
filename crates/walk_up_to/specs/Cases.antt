-- Cases: partial assignments of the tests, in which some tests are decided.
use Rattle.std.specs.Prelude.{◌≡◌, ◌⊎◌, ◌<◌, ◌+◌, ℕ, Bool, false, List, [], ◌∷◌, length, slice_get, slice_set, Option, Some, None}
use Rattle.kat_model.specs.Members.{Has}
use Rattle.kat_model.specs.Steps.{Atom}
use Rattle.test_diagrams.specs.Functions.{DiagramsParts, IsAtomOf, IsIndependent, IsConstant, DependsOn}
use Rattle.walk_pairs.specs.declared.items.Item.{Item}
use Rattle.walk_pairs.specs.declared.items.Side.{Side}
use Rattle.walk_pairs.specs.Items.{AreItems, targets_of, chosen}

-- the atom has the values of the decided tests
abbrev pub Extends : List (Option Bool) → Atom → Type 0
Extends [] [] = Unit {0}
Extends [] (b ∷ bs) = ⊥
Extends (d ∷ ds) [] = ⊥
Extends (None ∷ ds) (b ∷ bs) = Extends ds bs
Extends (Some c ∷ ds) (b ∷ bs) = (c ≡ b) × Extends ds bs

-- the test is not decided
abbrev pub IsOpen : List (Option Bool) → ℕ → Type 0
IsOpen decided k = slice_get decided k ≡ Some None

-- the number of undecided tests
abbrev pub open_count : List (Option Bool) → ℕ
open_count [] = 0
open_count (None ∷ ds) = 1 + open_count ds
open_count (Some b ∷ ds) = open_count ds

-- the least atom with the values of the decided tests
abbrev pub least_of : List (Option Bool) → Atom
least_of [] = []
least_of (None ∷ ds) = false ∷ least_of ds
least_of (Some b ∷ ds) = b ∷ least_of ds

-- the guards of the item do not depend on any test
abbrev pub IsConstantItem : DiagramsParts → Item → Type 0
IsConstantItem d i = IsConstant d i.left × IsConstant d i.right

-- a guard of the item depends on the test
abbrev pub HasNextTest : DiagramsParts → Item → ℕ → Type 0
HasNextTest d i test = (test < d.tests) × (DependsOn d i.left test ⊎ DependsOn d i.right test)

-- a guard of some item depends on the test
pub record IsNextTest (d : DiagramsParts) (items : List Item) (test : ℕ) : Type 0 where
  pub item : Item
  pub member : Has items item
  pub depends : HasNextTest d item test

abbrev pub AreConstant : DiagramsParts → List Item → Type 0
AreConstant d items = (i : Item) → Has items i → IsConstantItem d i

-- the guards of the item do not depend on the test
abbrev pub IsFixedItem : DiagramsParts → ℕ → Item → Type 0
IsFixedItem d k i = IsIndependent d i.left k × IsIndependent d i.right k

-- no guard depends on a decided test
abbrev pub AreFixed : DiagramsParts → List (Option Bool) → List Item → Type 0
AreFixed d decided items = (i : Item) → Has items i → (k : ℕ) (b : Bool) → slice_get decided k ≡ Some (Some b) → IsFixedItem d k i

-- a case: the decided tests, and items whose guards do not depend on them
pub record IsCase (d : DiagramsParts) (decided : List (Option Bool)) (items : List Item) : Type 0 where
  pub tests : length decided ≡ d.tests
  pub are : AreItems d items
  pub fixed : AreFixed d decided items

-- the new items are the old ones with the test set to the value
pub record AreItemsWith (c d : DiagramsParts) (old : List Item) (test : ℕ) (value : Bool) (new : List Item) : Type 0 where
  pub are : AreItems d new
  pub targets : (t : ℕ) → Has (targets_of new) t → Has (targets_of old) t
  pub given : (side : Side) (atom : Atom) → IsAtomOf d atom → chosen d side new atom ≡ chosen c side old (slice_set atom test value)
  pub independent : (k : ℕ) → ((i : Item) → Has old i → IsFixedItem c k i) ⊎ (k ≡ test) → (i : Item) → Has new i → IsFixedItem d k i
