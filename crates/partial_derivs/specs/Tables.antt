-- Tables from terms to their symbolic derivatives.
use Rattle.std.specs.Prelude.{ℕ}
use Rattle.kat_model.specs.Members.{Has}
use Rattle.term_nodes.specs.NodeLists.{NodeParts}
use Rattle.term_nodes.specs.NodeTrees.{tree_at}
use Rattle.test_diagrams.specs.Functions.{DiagramsParts}
use Rattle.partial_derivs.specs.declared.moves.Steps.{Steps}
use Rattle.partial_derivs.specs.declared.derivatives.Derivatives.{Derivatives}
use Rattle.partial_derivs.specs.Moves.{IsTermOf, IsDerivativeOf}

-- the steps are the derivative of the term with this id
pub record IsRight (store : NodeParts) (d : DiagramsParts) (i : ℕ) (steps : Steps) : Type 0 where
  pub term : IsTermOf store d.tests i
  pub steps_of : IsDerivativeOf store d (tree_at store i) steps

-- each entry is correct
abbrev pub AreRight : NodeParts → DiagramsParts → Derivatives → Type 0
AreRight store d derivatives = (entry : ℕ × Steps) → Has derivatives.table.entries entry → IsRight store d entry.0 entry.1
