-- If a tree has a number, its parts have numbers.
use Rattle.std.proofs.Common.{◌<◌, ℕ, refl, sym, subst, ◌∙◌, arith, length}
use Rattle.kat_model.specs.Trees.{TestTree, Term}
use Rattle.term_nodes.specs.declared.TestNode.{TestNode}
use Rattle.term_nodes.specs.declared.TestNode.TheVariants.{False, True, Prim, Not, And, Or}
use Rattle.term_nodes.specs.declared.TermNode.{TermNode}
use Rattle.term_nodes.specs.declared.TermNode.TheVariants.{Zero, One, Test, Act, Sum, Seq, Star}
use Rattle.term_nodes.specs.Nodes.{IsTestOver, IsOver}
use Rattle.term_nodes.specs.NodeLists.{NodeParts, IsTest, IsTerm, AreNodes}
use Rattle.term_nodes.specs.NodeTrees.{test_tree_in, tree_in, HasTestTree, HasTree}
use Rattle.term_nodes.specs.TreeParts.{HasTestParts, HasParts}
use Rattle.term_nodes.proofs.TestTrees.{test_node_of, test_tree_at-node}
use Rattle.term_nodes.proofs.TermTrees.{node_of, tree_at-node}

test_node_has_parts : (nodes : NodeParts) (n : ℕ) (node : TestNode ℕ) → ((i : ℕ) → i < n → IsTest nodes i) → IsTestOver n node → HasTestParts nodes (test_tree_in nodes node)
test_node_has_parts nodes n False within over = tt
test_node_has_parts nodes n True within over = tt
test_node_has_parts nodes n (Prim k) within over = tt
test_node_has_parts nodes n (Not i) within over = (i, within i over, refl)
test_node_has_parts nodes n (And i j) within over = ((i, within i over.0, refl), (j, within j over.1, refl))
test_node_has_parts nodes n (Or i j) within over = ((i, within i over.0, refl), (j, within j over.1, refl))

node_has_parts : (nodes : NodeParts) (n : ℕ) (node : TermNode ℕ ℕ) → ((i : ℕ) → i < n → IsTerm nodes i) → IsOver (length nodes.tests) n node → HasParts nodes (tree_in nodes node)
node_has_parts nodes n Zero within over = tt
node_has_parts nodes n One within over = tt
node_has_parts nodes n (Test i) within over = (i, over, refl)
node_has_parts nodes n (Act a) within over = tt
node_has_parts nodes n (Sum i j) within over = ((i, within i over.0, refl), (j, within j over.1, refl))
node_has_parts nodes n (Seq i j) within over = ((i, within i over.0, refl), (j, within j over.1, refl))
node_has_parts nodes n (Star i) within over = (i, within i over, refl)

-- if some id has a tree, some ids have its parts
pub test_has_parts : (nodes : NodeParts) → AreNodes nodes → (b : TestTree) → HasTestTree nodes b → HasTestParts nodes b
test_has_parts nodes is b (i, h, e) =
    let m = test_node_of nodes i h in
    subst (HasTestParts nodes) (sym (test_tree_at-node nodes is i m.0 m.1) ∙ e) (test_node_has_parts nodes i m.0 (λ k low. omega arith) (is.tests_ordered i m.0 m.1))

pub has_parts : (nodes : NodeParts) → AreNodes nodes → (e : Term) → HasTree nodes e → HasParts nodes e
has_parts nodes is e (i, h, same) =
    let m = node_of nodes i h in
    subst (HasParts nodes) (sym (tree_at-node nodes is i m.0 m.1) ∙ same) (node_has_parts nodes i m.0 (λ k low. omega arith) (is.terms_ordered i m.0 m.1))
