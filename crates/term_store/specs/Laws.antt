-- The laws of ids and trees.
use Rattle.std.specs.Prelude.{◌≡◌, ◌↔◌, ℕ, Some, slice_get}
use Rattle.term_nodes.specs.declared.TestNode.{TestNode}
use Rattle.term_nodes.specs.declared.TermNode.{TermNode}
use Rattle.term_nodes.specs.NodeLists.{NodeParts, IsTest, IsTerm}
use Rattle.term_nodes.specs.NodeTrees.{test_tree_at, tree_at, test_tree_in, tree_in}

-- the tree of an id is built by its node from the trees of the ids that the node names
pub record TreesByNode (store : NodeParts) : Type 0 where
  pub tests : (i : ℕ) (shape : TestNode ℕ) → slice_get store.tests i ≡ Some shape → test_tree_at store i ≡ test_tree_in store shape
  pub terms : (i : ℕ) (shape : TermNode ℕ ℕ) → slice_get store.terms i ≡ Some shape → tree_at store i ≡ tree_in store shape

-- two ids are equal if and only if their trees are equal
pub record EqualIdsAreEqualTrees (store : NodeParts) : Type 0 where
  pub tests : (i j : ℕ) → IsTest store i → IsTest store j → (i ≡ j) ↔ (test_tree_at store i ≡ test_tree_at store j)
  pub terms : (i j : ℕ) → IsTerm store i → IsTerm store j → (i ≡ j) ↔ (tree_at store i ≡ tree_at store j)
