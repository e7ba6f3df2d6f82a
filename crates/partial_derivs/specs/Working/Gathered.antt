-- Moves collected by their targets.
use Rattle.std.specs.Prelude.{◌≡◌, ◌⊎◌, ◌↔◌, ℕ, Bool, false, ◌&&◌, eqb, IsTrue, Option, None, Some, List, map}
use Rattle.kat_model.specs.Trees.{Term}
use Rattle.kat_model.specs.Steps.{Atom, dot}
use Rattle.term_nodes.specs.NodeLists.{NodeParts}
use Rattle.term_nodes.specs.NodeTrees.{tree_at}
use Rattle.test_diagrams.specs.Functions.{DiagramsParts, value_of, IsAtomOf}
use Rattle.partial_derivs.specs.declared.moves.Guarded.{Guarded}
use Rattle.partial_derivs.specs.declared.gathered.Target.{Target}
use Rattle.partial_derivs.specs.Moves.{IsTermOf, AreGuards, AreTargets, LeadsTo}

-- the move of an entry of a table from targets to guards
abbrev pub move_of : Target × ℕ → Guarded
move_of entry = record { guard = entry.1; act = entry.0.act; to = entry.0.to }

abbrev pub moves_of : List (Target × ℕ) → List Guarded
moves_of entries = map move_of entries

abbrev pub same_target : Target → Target → Bool
same_target s t = eqb s.act t.act && eqb s.to t.to

-- the value of an optional guard at an atom; false without a guard
abbrev pub guard_at : DiagramsParts → Option ℕ → Atom → Bool
guard_at d None atom = false
guard_at d (Some id) atom = value_of d id atom

-- the new moves are the old ones and the given one
pub record AddsMove (c d : DiagramsParts) (old new : List Guarded) (m : Guarded) : Type 0 where
  pub guards : AreGuards d new
  pub targets : (store : NodeParts) (n : ℕ) → AreTargets store n old → IsTermOf store n m.to → AreTargets store n new
  pub leads : (store : NodeParts) (atom : Atom) → IsAtomOf d atom → (a : ℕ) (e : Term)
      → LeadsTo store d new atom a e ↔ (LeadsTo store c old atom a e ⊎ ((m.act ≡ a) × IsTrue (value_of c m.guard atom) × (tree_at store m.to ≡ e)))

-- the new moves are the old ones, and the given ones where the guard is true
pub record AddsUnder (c d : DiagramsParts) (old new moves : List Guarded) (guard : ℕ) : Type 0 where
  pub guards : AreGuards d new
  pub targets : (store : NodeParts) (n : ℕ) → AreTargets store n old → AreTargets store n moves → AreTargets store n new
  pub leads : (store : NodeParts) (atom : Atom) → IsAtomOf d atom → (a : ℕ) (e : Term)
      → LeadsTo store d new atom a e ↔ (LeadsTo store c old atom a e ⊎ (IsTrue (value_of c guard atom) × LeadsTo store c moves atom a e))

-- the new moves are the old ones, and the given one followed by the term
pub record AddsFollowed (s t : NodeParts) (c d : DiagramsParts) (old new : List Guarded) (m : Guarded) (tail : ℕ) : Type 0 where
  pub guards : AreGuards d new
  pub targets : AreTargets t d.tests new
  pub leads : (atom : Atom) → IsAtomOf d atom → (a : ℕ) (e : Term)
      → LeadsTo t d new atom a e ↔ (LeadsTo s c old atom a e ⊎ ((m.act ≡ a) × IsTrue (value_of c m.guard atom) × (dot (tree_at s m.to) (tree_at s tail) ≡ e)))

-- the new moves are the given ones, each followed by the term
pub record Follows (s t : NodeParts) (c d : DiagramsParts) (new moves : List Guarded) (tail : ℕ) : Type 0 where
  pub guards : AreGuards d new
  pub targets : AreTargets t d.tests new
  pub leads : (atom : Atom) → IsAtomOf d atom → (a : ℕ) (e : Term)
      → LeadsTo t d new atom a e ↔ ((x : Term) × LeadsTo s c moves atom a x × (dot x (tree_at s tail) ≡ e))
