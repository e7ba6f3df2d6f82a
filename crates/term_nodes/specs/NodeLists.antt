-- Lists of test nodes and of term nodes. The number of a node is its place, from 0.
use Rattle.std.specs.Prelude.{◌≡◌, ◌<◌, ℕ, List, length, Some, slice_get}
use Rattle.kat_model.specs.Members.{HasNoDoubles}
use Rattle.term_nodes.specs.declared.TestNode.{TestNode}
use Rattle.term_nodes.specs.declared.TermNode.{TermNode}
use Rattle.term_nodes.specs.Nodes.{IsTestOver, IsOver}

pub record NodeParts : Type 0 where
  pub tests : List (TestNode ℕ)
  pub terms : List (TermNode ℕ ℕ)

-- the number is that of a test; the number is that of a term
abbrev pub IsTest : NodeParts → ℕ → Type 0
IsTest nodes i = i < length nodes.tests

abbrev pub IsTerm : NodeParts → ℕ → Type 0
IsTerm nodes i = i < length nodes.terms

-- each node names only earlier nodes, and no node occurs twice
pub record AreNodes (nodes : NodeParts) : Type 0 where
  pub tests_ordered : (i : ℕ) (node : TestNode ℕ) → slice_get nodes.tests i ≡ Some node → IsTestOver i node
  pub terms_ordered : (i : ℕ) (node : TermNode ℕ ℕ) → slice_get nodes.terms i ≡ Some node → IsOver (length nodes.tests) i node
  pub tests_once : HasNoDoubles nodes.tests
  pub terms_once : HasNoDoubles nodes.terms
