-- How lists of nodes grow: nodes are appended to the older ones.
use Rattle.std.specs.Prelude.{◌≡◌, ◌⊎◌, ℕ, List, [], ◌∷◌, ◌++◌}
use Rattle.term_nodes.specs.declared.TestNode.{TestNode}
use Rattle.term_nodes.specs.declared.TermNode.{TermNode}
use Rattle.term_nodes.specs.NodeLists.{NodeParts, IsTest, IsTerm, AreNodes}
use Rattle.term_nodes.specs.NodeTrees.{test_tree_at, tree_at}

-- the first list is a prefix of the second
abbrev pub IsPrefix : {X : Type 0} → List X → List X → Type 0
IsPrefix {X} xs ys = (more : List X) × (ys ≡ xs ++ more)

-- older numbers keep their nodes and their trees, and sound lists stay sound
pub record Grows (old new : NodeParts) : Type 0 where
  pub tests : IsPrefix old.tests new.tests
  pub terms : IsPrefix old.terms new.terms
  pub sound : AreNodes old → AreNodes new
  pub test_numbers : (i : ℕ) → IsTest old i → IsTest new i
  pub term_numbers : (i : ℕ) → IsTerm old i → IsTerm new i
  pub test_trees : (i : ℕ) → IsTest old i → test_tree_at new i ≡ test_tree_at old i
  pub trees : (i : ℕ) → IsTerm old i → tree_at new i ≡ tree_at old i

-- the node is the only possible addition
abbrev pub AddsTest : NodeParts → NodeParts → TestNode ℕ → Type 0
AddsTest old new node = (new ≡ old) ⊎ (new ≡ record old { tests = old.tests ++ node ∷ [] })

abbrev pub AddsTerm : NodeParts → NodeParts → TermNode ℕ ℕ → Type 0
AddsTerm old new node = (new ≡ old) ⊎ (new ≡ record old { terms = old.terms ++ node ∷ [] })
