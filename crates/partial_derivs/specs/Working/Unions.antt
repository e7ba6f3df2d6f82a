-- Unions of steps.
use Rattle.std.specs.Prelude.{◌↔◌, ℕ, Bool, ◌||◌, List, ◌++◌}
use Rattle.kat_model.specs.Trees.{Term}
use Rattle.kat_model.specs.Members.{Has}
use Rattle.kat_model.specs.Steps.{Atom}
use Rattle.term_nodes.specs.NodeLists.{NodeParts}
use Rattle.test_diagrams.specs.Functions.{DiagramsParts, IsDiagramId, IsAtomOf, IsDiagramOf}
use Rattle.partial_derivs.specs.declared.moves.Steps.{Steps}
use Rattle.partial_derivs.specs.declared.sets.Union.{Union}
use Rattle.partial_derivs.specs.Moves.{AreGuards, AreTargets, LeadsTo, IsStepsBy}
use Rattle.partial_derivs.specs.Working.Gathered.{moves_of}

-- the guards and the accepted atoms are given by ids of diagrams
pub record IsUnionOfIds (d : DiagramsParts) (union : Union) : Type 0 where
  pub accepts : IsDiagramId d union.accepts
  pub guards : AreGuards d (moves_of union.gathered.guards.entries)

-- the union accepts the atoms that `accepted` accepts, and leads exactly to the terms of `left`
pub record IsUnionBy (store : NodeParts) (d : DiagramsParts) (accepted : Atom → Bool) (left : Atom → ℕ → List Term) (union : Union) : Type 0 where
  pub accepts : IsDiagramOf d union.accepts accepted
  pub guards : AreGuards d (moves_of union.gathered.guards.entries)
  pub targets : AreTargets store d.tests (moves_of union.gathered.guards.entries)
  pub leads : (atom : Atom) → IsAtomOf d atom → (a : ℕ) (e : Term) → Has (left atom a) e ↔ LeadsTo store d (moves_of union.gathered.guards.entries) atom a e

-- the new union is the old one with the steps added
abbrev pub AddsSteps : DiagramsParts → DiagramsParts → Union → Union → Steps → Type 0
AddsSteps c d old new steps =
    (store : NodeParts) (accepted also_accepted : Atom → Bool) (left also_left : Atom → ℕ → List Term)
    → IsUnionBy store c accepted left old → IsStepsBy store c also_accepted also_left steps
    → IsUnionBy store d (λ atom. accepted atom || also_accepted atom) (λ atom a. left atom a ++ also_left atom a) new
