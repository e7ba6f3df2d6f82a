-- The trees of nodes, by recursion on the numbers that they name.
use Rattle.std.specs.Prelude.{◌≡◌, ℕ, List, slice_index_or}
use Rattle.kat_model.specs.CourseOfValues.{course_of_values}
use Rattle.kat_model.specs.Trees.{TestTree, bottom, top, prim, complement, meet, join, Term, zero, one, test, act, sum, product, star}
use Rattle.term_nodes.specs.declared.TestNode.{TestNode}
use Rattle.term_nodes.specs.declared.TestNode.TheVariants.{False, True, Prim, Not, And, Or}
use Rattle.term_nodes.specs.declared.TermNode.{TermNode}
use Rattle.term_nodes.specs.declared.TermNode.TheVariants.{Zero, One, Test, Act, Sum, Seq, Star}
use Rattle.term_nodes.specs.NodeLists.{NodeParts, IsTest, IsTerm}

-- the tree of a test node, over the trees of the tests that it may name
abbrev pub test_tree_over : List TestTree → TestNode ℕ → TestTree
test_tree_over tests False = bottom
test_tree_over tests True = top
test_tree_over tests (Prim k) = prim k
test_tree_over tests (Not i) = complement (slice_index_or tests i bottom)
test_tree_over tests (And i j) = meet (slice_index_or tests i bottom) (slice_index_or tests j bottom)
test_tree_over tests (Or i j) = join (slice_index_or tests i bottom) (slice_index_or tests j bottom)

-- the tree of a term node, over the trees of the tests and terms that it may name
abbrev pub tree_over : List TestTree → List Term → TermNode ℕ ℕ → Term
tree_over tests terms Zero = zero
tree_over tests terms One = one
tree_over tests terms (Test i) = test (slice_index_or tests i bottom)
tree_over tests terms (Act a) = act a
tree_over tests terms (Sum i j) = sum (slice_index_or terms i zero) (slice_index_or terms j zero)
tree_over tests terms (Seq i j) = product (slice_index_or terms i zero) (slice_index_or terms j zero)
tree_over tests terms (Star i) = star (slice_index_or terms i zero)

-- the trees of all tests, and of all terms, each over the trees of the earlier nodes
unfoldable pub test_trees : NodeParts → List TestTree
test_trees nodes = course_of_values test_tree_over nodes.tests

unfoldable pub trees : NodeParts → List Term
trees nodes = course_of_values (tree_over (test_trees nodes)) nodes.terms

-- the tree of a number
abbrev pub test_tree_at : NodeParts → ℕ → TestTree
test_tree_at nodes i = slice_index_or (test_trees nodes) i bottom

abbrev pub tree_at : NodeParts → ℕ → Term
tree_at nodes i = slice_index_or (trees nodes) i zero

-- the tree of a node that may be added
abbrev pub test_tree_in : NodeParts → TestNode ℕ → TestTree
test_tree_in nodes node = test_tree_over (test_trees nodes) node

abbrev pub tree_in : NodeParts → TermNode ℕ ℕ → Term
tree_in nodes node = tree_over (test_trees nodes) (trees nodes) node

-- some number has the tree
abbrev pub HasTestTree : NodeParts → TestTree → Type 0
HasTestTree nodes b = (i : ℕ) × IsTest nodes i × (test_tree_at nodes i ≡ b)

abbrev pub HasTree : NodeParts → Term → Type 0
HasTree nodes e = (i : ℕ) × IsTerm nodes i × (tree_at nodes i ≡ e)
