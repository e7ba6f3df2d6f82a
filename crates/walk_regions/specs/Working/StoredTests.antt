-- Tests of a store that represent functions of atoms, as diagrams do.
use Rattle.std.specs.Prelude.{◌≡◌, ◌<◌, ℕ, Bool, List, length}
use Rattle.kat_model.specs.Members.{Has}
use Rattle.kat_model.specs.Steps.{Atom, truth}
use Rattle.kat_model.specs.Problems.{IsTestInRange}
use Rattle.term_nodes.specs.NodeLists.{NodeParts, IsTest}
use Rattle.term_nodes.specs.NodeTrees.{test_tree_at}
use Rattle.test_diagrams.specs.Functions.{DiagramsParts, value_of, IsDiagramId, IsIndependent}

-- the id is that of a test over n primitive tests that represents the function
pub record IsTestFor (store : NodeParts) (n id : ℕ) (function : Atom → Bool) : Type 0 where
  pub is_id : IsTest store id
  pub in_range : IsTestInRange n (test_tree_at store id)
  pub value : (atom : Atom) → length atom ≡ n → truth (test_tree_at store id) atom ≡ function atom

-- the test has this value at all atoms
abbrev pub IsConstantTest : NodeParts → ℕ → Bool → Type 0
IsConstantTest store id b = (atom : Atom) → truth (test_tree_at store id) atom ≡ b

-- the diagram does not depend on the tests below `from`
abbrev pub IsFree : DiagramsParts → ℕ → ℕ → Type 0
IsFree d id from = (t : ℕ) → t < from → IsIndependent d id t

-- each test of the table represents its diagram
abbrev pub AreTestsFor : NodeParts → DiagramsParts → List (ℕ × ℕ) → Type 0
AreTestsFor store d es = (e : ℕ × ℕ) → Has es e → IsDiagramId d e.0 × IsTestFor store d.tests e.1 (value_of d e.0)
