-- The targets of an action on both sides of a pair, with their guards, and the targets reached at an atom.
use Rattle.std.specs.Prelude.{◌≡◌, ◌⊎◌, ℕ, Bool, false, true, not, ◌&&◌, nat_eq, if◌then◌else◌, List, [], ◌∷◌, map, IsTrue, Option, Some, None}
use Rattle.std.specs.Map.{lookup, keys_of}
use Rattle.std.specs.BTreeMap.{is_at}
use Rattle.std.specs.Ordering.{nat_cmp}
use Rattle.kat_model.specs.Members.{Has, SameMembers}
use Rattle.kat_model.specs.Steps.{Atom}
use Rattle.term_nodes.specs.NumberSets.{are_ascending}
use Rattle.test_diagrams.specs.Functions.{DiagramsParts, value_of, IsDiagramId, IsAtomOf, IsDiagramOf}
use Rattle.partial_derivs.specs.declared.moves.Guarded.{Guarded}
use Rattle.walk_pairs.specs.declared.items.Item.{Item}
use Rattle.walk_pairs.specs.declared.items.Ends.{Ends}
use Rattle.walk_pairs.specs.declared.items.Side.{Side}
use Rattle.walk_pairs.specs.declared.items.Side.TheVariants.{Left, Right}

-- the guard of an item on the given side, and on the opposite side
abbrev pub guard_of : Side → Item → ℕ
guard_of Left item = item.left
guard_of Right item = item.right

abbrev pub guard_beyond : Side → Item → ℕ
guard_beyond Left item = item.right
guard_beyond Right item = item.left

abbrev pub opposite_of : Side → Side
opposite_of Left = Right
opposite_of Right = Left

-- the item with another guard on the side
abbrev pub with_guard : Side → Item → ℕ → Item
with_guard Left item guard = record { target = item.target; left = guard; right = item.right }
with_guard Right item guard = record { target = item.target; left = item.left; right = guard }

-- the targets
abbrev pub targets_of : List Item → List ℕ
targets_of items = map (λ i. i.target) items

-- the targets whose guard on the side is the given one
abbrev pub targets_under : ℕ → Side → List Item → List ℕ
targets_under guard side [] = []
targets_under guard side (i ∷ is) = if nat_eq (guard_of side i) guard then i.target ∷ targets_under guard side is else targets_under guard side is

-- whether the target may be on the side at an atom at which it is not on the other side
abbrev pub is_open : ℕ → ℕ → Side → Item → Bool
is_open never always side i = not (nat_eq i.left i.right) && (not (nat_eq (guard_of side i) never) && not (nat_eq (guard_beyond side i) always))

-- the open targets of the side
abbrev pub open_targets : ℕ → ℕ → Side → List Item → List ℕ
open_targets never always side [] = []
open_targets never always side (i ∷ is) = if is_open never always side i then i.target ∷ open_targets never always side is else open_targets never always side is

-- the targets on the side at the atom
abbrev pub chosen : DiagramsParts → Side → List Item → Atom → List ℕ
chosen d side [] atom = []
chosen d side (i ∷ is) atom = if value_of d (guard_of side i) atom then i.target ∷ chosen d side is atom else chosen d side is atom

-- the targets of the moves by the action at the atom
abbrev pub led : DiagramsParts → List Guarded → ℕ → Atom → List ℕ
led d [] act atom = []
led d (m ∷ ms) act atom = if nat_eq m.act act && value_of d m.guard atom then m.to ∷ led d ms act atom else led d ms act atom

-- the items of a table from targets to items
abbrev pub items_in : List (ℕ × Item) → List Item
items_in es = map (λ e. e.1) es

-- each key is the target of its item
abbrev pub AreKeyed : List (ℕ × Item) → Type 0
AreKeyed es = (e : ℕ × Item) → Has es e → e.1.target ≡ e.0

abbrev pub found_item : ℕ → ℕ → Option Item → Item
found_item never target None = record { target = target; left = never; right = never }
found_item never target (Some item) = item

-- the item of a target, or an item that is never reached
abbrev pub item_in : ℕ → List (ℕ × Item) → ℕ → Item
item_in never es target = found_item never target (lookup (is_at (nat_cmp target)) es)

-- the guard of the last move by the action to the target, or the given earlier guard
abbrev pub last_guard : List Guarded → ℕ → ℕ → ℕ → ℕ
last_guard [] act target before = before
last_guard (m ∷ ms) act target before = last_guard ms act target (if nat_eq m.act act && nat_eq m.to target then m.guard else before)

-- the new table is the old one after setting the guards of one side from the moves by the action
pub record AddsMoves (never : ℕ) (side other : Side) (old new : List (ℕ × Item)) (moves : List Guarded) (act : ℕ) : Type 0 where
  pub there : (target : ℕ) → guard_of side (item_in never new target) ≡ last_guard moves act target (guard_of side (item_in never old target))
  pub kept : (target : ℕ) → guard_of other (item_in never new target) ≡ guard_of other (item_in never old target)

-- the targets of moves
abbrev pub led_to : List Guarded → List ℕ
led_to moves = map (λ m. m.to) moves

-- each key of the new table is a key of the old table or the target of a move
abbrev pub AddsTargets : List (ℕ × Item) → List (ℕ × Item) → List Guarded → Type 0
AddsTargets old new moves = (k : ℕ) → Has (keys_of new) k → Has (keys_of old) k ⊎ Has (led_to moves) k

-- each item has the target of a move of one side
abbrev pub AreLedTo : List Guarded → List Guarded → List Item → Type 0
AreLedTo left right items = (i : Item) → Has items i → Has (led_to left) i.target ⊎ Has (led_to right) i.target

-- the guards are ids of diagrams, and the targets ascend
pub record AreItems (d : DiagramsParts) (items : List Item) : Type 0 where
  pub lefts : (i : Item) → Has items i → IsDiagramId d i.left
  pub rights : (i : Item) → Has items i → IsDiagramId d i.right
  pub ascending : IsTrue (are_ascending (targets_of items))

-- at each atom the items have exactly the targets of the moves by the action
pub record AreItemsOf (d : DiagramsParts) (left right : List Guarded) (act : ℕ) (items : List Item) : Type 0 where
  pub are : AreItems d items
  pub lefts : (atom : Atom) → IsAtomOf d atom → SameMembers (chosen d Left items atom) (led d left act atom)
  pub rights : (atom : Atom) → IsAtomOf d atom → SameMembers (chosen d Right items atom) (led d right act atom)

-- the ids are those of the two constants
pub record AreEnds (d : DiagramsParts) (ends : Ends) : Type 0 where
  pub never : IsDiagramOf d ends.never (λ atom. false)
  pub always : IsDiagramOf d ends.always (λ atom. true)
