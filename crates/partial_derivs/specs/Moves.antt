-- Symbolic derivatives: the atoms that terms accept and the terms that they move to, as functions of the tests.
use Rattle.std.specs.Prelude.{◌≡◌, ◌↔◌, ℕ, Bool, IsTrue, List, [], ◌∷◌}
use Rattle.kat_model.specs.Trees.{Term}
use Rattle.kat_model.specs.Members.{Has}
use Rattle.kat_model.specs.Problems.{HasTestsBelow}
use Rattle.kat_model.specs.Steps.{Atom, out, next, set_out, set_next}
use Rattle.term_nodes.specs.NodeLists.{NodeParts, IsTerm}
use Rattle.term_nodes.specs.NodeTrees.{tree_at}
use Rattle.term_nodes.specs.Growth.{Grows}
use Rattle.test_diagrams.specs.Functions.{DiagramsParts, value_of, IsDiagramId, IsAtomOf, IsDiagramOf, KeepsFunctions}
use Rattle.partial_derivs.specs.declared.moves.Guarded.{Guarded}
use Rattle.partial_derivs.specs.declared.moves.Steps.{Steps}

-- the number is the id of a term over tests below n
pub record IsTermOf (store : NodeParts) (n i : ℕ) : Type 0 where
  pub is_id : IsTerm store i
  pub in_range : HasTestsBelow n (tree_at store i)

-- the guards are ids of diagrams
abbrev pub AreGuards : DiagramsParts → List Guarded → Type 0
AreGuards d moves = (m : Guarded) → Has moves m → IsDiagramId d m.guard

-- the moves lead to ids of terms over tests below n
abbrev pub AreTargets : NodeParts → ℕ → List Guarded → Type 0
AreTargets store n moves = (m : Guarded) → Has moves m → IsTermOf store n m.to

-- some move has the action, a guard that is true at the atom, and the term as its target
pub record LeadsTo (store : NodeParts) (d : DiagramsParts) (moves : List Guarded) (atom : Atom) (a : ℕ) (e : Term) : Type 0 where
  pub through : Guarded
  pub member : Has moves through
  pub action : through.act ≡ a
  pub guard : IsTrue (value_of d through.guard atom)
  pub tree : tree_at store through.to ≡ e

-- no two moves have the same action and the same target
abbrev pub AreMerged : List Guarded → Type 0
AreMerged [] = Unit {0}
AreMerged (m ∷ ms) = ((n : Guarded) → Has ms n → n.act ≡ m.act → n.to ≡ m.to → ⊥) × AreMerged ms

-- the steps accept the atoms that `accepted` accepts, and lead exactly to the terms of `left`
pub record IsStepsBy (store : NodeParts) (d : DiagramsParts) (accepted : Atom → Bool) (left : Atom → ℕ → List Term) (steps : Steps) : Type 0 where
  pub accepts : IsDiagramOf d steps.accepts accepted
  pub guards : AreGuards d steps.moves.items
  pub targets : AreTargets store d.tests steps.moves.items
  pub leads : (atom : Atom) → IsAtomOf d atom → (a : ℕ) (e : Term) → Has (left atom a) e ↔ LeadsTo store d steps.moves.items atom a e
  pub merged : AreMerged steps.moves.items

-- the steps are the symbolic derivative of a set of terms; and of one term
abbrev pub IsStepsOf : NodeParts → DiagramsParts → List Term → Steps → Type 0
IsStepsOf store d es steps = IsStepsBy store d (set_out es) (set_next es) steps

abbrev pub IsDerivativeOf : NodeParts → DiagramsParts → Term → Steps → Type 0
IsDerivativeOf store d e steps = IsStepsBy store d (out e) (next e) steps

-- the guards and the accepted atoms are given by ids of diagrams
pub record HasIds (d : DiagramsParts) (steps : Steps) : Type 0 where
  pub accepts : IsDiagramId d steps.accepts
  pub guards : AreGuards d steps.moves.items

-- old ids of the store and of the diagrams keep their trees and functions
pub record Keeps (old new : NodeParts) (older newer : DiagramsParts) : Type 0 where
  pub trees : Grows old new
  pub functions : KeepsFunctions older newer
