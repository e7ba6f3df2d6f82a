-- The allowed atoms and moves, as diagrams.
use Rattle.std.specs.Prelude.{◌≡◌, ◌↔◌, ℕ, not, List, [], ◌∷◌, length, slice_get, Some, IsTrue}
use Rattle.kat_model.specs.Trees.{Term}
use Rattle.kat_model.specs.Steps.{Atom, set_out}
use Rattle.kat_model.specs.Strings.{set_accepts}
use Rattle.kat_model.specs.AllowedMoves.{IsAllowedMove}
use Rattle.test_diagrams.specs.Functions.{DiagramsParts, value_of, IsDiagramId, IsAtomOf, IsDiagramOf}
use Rattle.walk_regions.specs.declared.allowed.AllowedMoves.{AllowedMoves}
use Rattle.walk_regions.specs.declared.bars.Bars.{Bars}
use Rattle.walk_regions.specs.Bars.{IsBarred, AreSoundBars}

-- some short hypothesis accepts a move if and only if a bar blocks it
pub record ShowMoves (d : DiagramsParts) (shorts : List Term) (act : ℕ) (b : Bars) : Type 0 where
  pub sound : AreSoundBars d b
  pub given : (x y : Atom) → IsAtomOf d x → IsAtomOf d y → IsTrue (set_accepts shorts x (record { act = act; atom = y } ∷ [])) ↔ IsBarred d b.bars.items x y

-- the number of actions whose moves it determines
abbrev pub action_count : AllowedMoves → ℕ
action_count m = length m.actions.items

-- the diagram is true at the atoms that no short hypothesis accepts, and the bars determine the moves by each action
pub record IsAllowance (d : DiagramsParts) (shorts : List Term) (actions : ℕ) (m : AllowedMoves) : Type 0 where
  pub allowed : IsDiagramOf d m.allowed (λ a. not (set_out shorts a))
  pub count : length m.actions.items ≡ actions
  pub moves : (act : ℕ) (b : Bars) → slice_get m.actions.items act ≡ Some b → ShowMoves d shorts act b

-- the second diagram is true at each atom of the first
abbrev pub IsWithin : DiagramsParts → ℕ → ℕ → Type 0
IsWithin d region whole = (a : Atom) → IsAtomOf d a → IsTrue (value_of d region a) → IsTrue (value_of d whole a)

-- an allowed move by the action leads from this atom of the region to that one
pub record IsAllowedSource (d : DiagramsParts) (shorts : List Term) (region act : ℕ) (after before : Atom) : Type 0 where
  pub fits : IsAtomOf d before
  pub there : IsTrue (value_of d region before)
  pub allowed : IsAllowedMove shorts before (record { act = act; atom = after })

-- an allowed move by the action leads from some atom of the region to this atom
abbrev pub HasAllowedSource : DiagramsParts → List Term → ℕ → ℕ → Atom → Type 0
HasAllowedSource d shorts region act after = (before : Atom) × IsAllowedSource d shorts region act after before

-- the diagram is true exactly at the atoms to which an allowed move by the action leads from the region
pub record IsAllowedImage (d : DiagramsParts) (shorts : List Term) (region act id : ℕ) : Type 0 where
  pub is_id : IsDiagramId d id
  pub there : (after : Atom) → IsAtomOf d after → IsTrue (value_of d id after) → HasAllowedSource d shorts region act after
  pub back : (after : Atom) → IsAtomOf d after → HasAllowedSource d shorts region act after → IsTrue (value_of d id after)
