-- The trees of test ids: the tree of an id is that of its node, each tree has one id, and added nodes change no trees.
use Rattle.std.proofs.Common.{◌≡◌, ◌<◌, ℕ, zero, suc, List, length, get_or, Some, slice_get, Contains, refl, sym, ap, ◌∙◌, arith}
use Rattle.std.proofs.lemmas.Option.{slice_get-get_or, slice_get_within}
use Rattle.kat_model.specs.CourseOfValues.{course_of_values}
use Rattle.kat_model.specs.Trees.{TestTree, bottom, complement, meet, join}
use Rattle.kat_model.proofs.Places.{one_place, contains_at}
use Rattle.kat_model.proofs.ValuesInOrder.{length-course_of_values, course_of_values-at, course_of_values-append}
use Rattle.term_nodes.specs.declared.TestNode.{TestNode}
use Rattle.term_nodes.specs.declared.TestNode.TheVariants.{False, True, Prim, Not, And, Or}
use Rattle.term_nodes.specs.Nodes.{IsTestOver}
use Rattle.term_nodes.specs.NodeLists.{NodeParts, IsTest, AreNodes}
use Rattle.term_nodes.specs.NodeTrees.{test_tree_over, test_trees, test_tree_at, test_tree_in, HasTestTree}
use Rattle.term_nodes.specs.Growth.{IsPrefix}

-- the tree of a node depends only on the trees of the numbers that it names
test_tree_over-same : (first second : List TestTree) (n : ℕ) (node : TestNode ℕ) → ((i : ℕ) → i < n → get_or first i bottom ≡ get_or second i bottom) → IsTestOver n node → test_tree_over first node ≡ test_tree_over second node
test_tree_over-same first second n False same over = refl
test_tree_over-same first second n True same over = refl
test_tree_over-same first second n (Prim k) same over = refl
test_tree_over-same first second n (Not i) same over = ap complement (same i over)
test_tree_over-same first second n (And i j) same over = λ k. meet (same i over.0 k) (same j over.1 k)
test_tree_over-same first second n (Or i j) same over = λ k. join (same i over.0 k) (same j over.1 k)

-- the tree of an id is that of its node
pub test_tree_at-node : (nodes : NodeParts) → AreNodes nodes → (i : ℕ) (node : TestNode ℕ) → slice_get nodes.tests i ≡ Some node → test_tree_at nodes i ≡ test_tree_in nodes node
unfolding test_trees
test_tree_at-node nodes is i node e =
    let at = course_of_values-at test_tree_over bottom nodes.tests i node e in
    at.here ∙ test_tree_over-same at.front (test_trees nodes) i node at.before (is.tests_ordered i node e)

-- and it is the element at the place of the number
pub test_tree_represents : (nodes : NodeParts) → AreNodes nodes → (i : ℕ) (node : TestNode ℕ) → slice_get nodes.tests i ≡ Some node → slice_get (test_trees nodes) i ≡ Some (test_tree_in nodes node)
unfolding test_trees
test_tree_represents nodes is i node e =
    slice_get-get_or (test_trees nodes) i bottom (rw length-course_of_values (slice_get_within nodes.tests i node e)) ∙ ap Some (test_tree_at-node nodes is i node e)

-- ---- added nodes keep the trees

pub test_tree_at-kept : (old new : NodeParts) → IsPrefix old.tests new.tests → (i : ℕ) → IsTest old i → test_tree_at new i ≡ test_tree_at old i
unfolding test_trees
test_tree_at-kept old new (more, e) i h =
    ap (λ nodes. get_or (course_of_values test_tree_over nodes) i bottom) e ∙ course_of_values-append test_tree_over old.tests more bottom i h

pub test_tree_in-kept : (old new : NodeParts) → ((i : ℕ) → IsTest old i → test_tree_at new i ≡ test_tree_at old i) → (node : TestNode ℕ) → IsTestOver (length old.tests) node → test_tree_in new node ≡ test_tree_in old node
test_tree_in-kept old new kept node over = test_tree_over-same (test_trees new) (test_trees old) (length old.tests) node kept over

-- ---- one id for each tree

module _ (nodes : NodeParts) where
  -- nodes with the same tree are equal, if the numbers that they name have different trees
  same_test_node : (m n : ℕ) (a b : TestNode ℕ) → ((i j : ℕ) → i < m → j < n → test_tree_at nodes i ≡ test_tree_at nodes j → i ≡ j) → IsTestOver m a → IsTestOver n b → test_tree_in nodes a ≡ test_tree_in nodes b → a ≡ b
  same_test_node m n False False one p q e = refl
  same_test_node m n True True one p q e = refl
  same_test_node m n (Prim k) (Prim l) one p q e = cc
  same_test_node m n (Not i) (Not j) one p q e =
      let inner : test_tree_at nodes i ≡ test_tree_at nodes j = cc in
      ap Not (one i j p q inner)
  same_test_node m n (And i j) (And k l) one p q e =
      let left : test_tree_at nodes i ≡ test_tree_at nodes k = cc in
      let right : test_tree_at nodes j ≡ test_tree_at nodes l = cc in
      λ v. And (one i k p.0 q.0 left v) (one j l p.1 q.1 right v)
  same_test_node m n (Or i j) (Or k l) one p q e =
      let left : test_tree_at nodes i ≡ test_tree_at nodes k = cc in
      let right : test_tree_at nodes j ≡ test_tree_at nodes l = cc in
      λ v. Or (one i k p.0 q.0 left v) (one j l p.1 q.1 right v)
  same_test_node m n _ _ one p q e = cc

  pub test_node_of : (i : ℕ) → IsTest nodes i → (node : TestNode ℕ) × (slice_get nodes.tests i ≡ Some node)
  test_node_of i h = (get_or nodes.tests i False, slice_get-get_or nodes.tests i False h)

  same_test_id : AreNodes nodes → (bound i j : ℕ) → i < bound → IsTest nodes i → IsTest nodes j → test_tree_at nodes i ≡ test_tree_at nodes j → i ≡ j
  same_test_id is zero i j low h k e = absurd (omega arith)
  same_test_id is (suc bound) i j low h k e =
      let m = test_node_of i h in
      let n = test_node_of j k in
      let trees = sym (test_tree_at-node nodes is i m.0 m.1) ∙ e ∙ test_tree_at-node nodes is j n.0 n.1 in
      let same = same_test_node i j m.0 n.0 (λ v w v_low w_low. same_test_id is bound v w (omega arith) (omega arith) (omega arith)) (is.tests_ordered i m.0 m.1) (is.tests_ordered j n.0 n.1) trees in
      one_place nodes.tests is.tests_once i j n.0 (m.1 ∙ ap Some same) n.1

  pub one_id_a_test : AreNodes nodes → (i j : ℕ) → IsTest nodes i → IsTest nodes j → test_tree_at nodes i ≡ test_tree_at nodes j → i ≡ j
  one_id_a_test is i j h k e = same_test_id is (suc i) i j (omega arith) h k e

  -- a node whose tree some id has is in the list
  pub test_node_represents : AreNodes nodes → (node : TestNode ℕ) → IsTestOver (length nodes.tests) node → HasTestTree nodes (test_tree_in nodes node) → Contains nodes.tests node
  test_node_represents is node over (i, h, e) =
      let m = test_node_of i h in
      let same = same_test_node i (length nodes.tests) m.0 node (λ v w v_low w_low. one_id_a_test is v w (omega arith) w_low) (is.tests_ordered i m.0 m.1) over (sym (test_tree_at-node nodes is i m.0 m.1) ∙ e) in
      contains_at nodes.tests i node (m.1 ∙ ap Some same)
