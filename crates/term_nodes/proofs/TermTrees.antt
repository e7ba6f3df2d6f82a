-- The trees of term ids: the tree of an id is that of its node, each tree has one id, and added nodes change no trees.
use Rattle.std.proofs.Common.{◌≡◌, ◌<◌, ℕ, zero, suc, List, length, get_or, Some, slice_get, Contains, refl, sym, ap, ◌∙◌, arith}
use Rattle.std.proofs.lemmas.Option.{slice_get-get_or, slice_get_within}
use Rattle.kat_model.specs.CourseOfValues.{course_of_values}
use Rattle.kat_model.specs.Trees.{TestTree, bottom, Term, zero as no_term, test, sum, product, star}
use Rattle.kat_model.proofs.Places.{one_place, contains_at}
use Rattle.kat_model.proofs.ValuesInOrder.{length-course_of_values, course_of_values-at, course_of_values-append, course_of_values-same}
use Rattle.term_nodes.specs.declared.TermNode.{TermNode}
use Rattle.term_nodes.specs.declared.TermNode.TheVariants.{Zero, One, Test, Act, Sum, Seq, Star}
use Rattle.term_nodes.specs.Nodes.{IsOver}
use Rattle.term_nodes.specs.NodeLists.{NodeParts, IsTest, IsTerm, AreNodes}
use Rattle.term_nodes.specs.NodeTrees.{test_tree_at, test_trees, tree_over, trees, tree_at, tree_in, HasTree}
use Rattle.term_nodes.specs.Growth.{IsPrefix}
use Rattle.term_nodes.proofs.TestTrees.{one_id_a_test, test_tree_at-kept}

-- the tree of a node depends only on the trees of the numbers that it names
tree_over-same : (tests more_tests : List TestTree) (terms more_terms : List Term) (m n : ℕ) (node : TermNode ℕ ℕ)
    → ((i : ℕ) → i < m → get_or tests i bottom ≡ get_or more_tests i bottom) → ((i : ℕ) → i < n → get_or terms i no_term ≡ get_or more_terms i no_term)
    → IsOver m n node → tree_over tests terms node ≡ tree_over more_tests more_terms node
tree_over-same tests more_tests terms more_terms m n Zero first second over = refl
tree_over-same tests more_tests terms more_terms m n One first second over = refl
tree_over-same tests more_tests terms more_terms m n (Test i) first second over = ap test (first i over)
tree_over-same tests more_tests terms more_terms m n (Act a) first second over = refl
tree_over-same tests more_tests terms more_terms m n (Sum i j) first second over = λ k. sum (second i over.0 k) (second j over.1 k)
tree_over-same tests more_tests terms more_terms m n (Seq i j) first second over = λ k. product (second i over.0 k) (second j over.1 k)
tree_over-same tests more_tests terms more_terms m n (Star i) first second over = ap star (second i over)

-- the tree of an id is that of its node
pub tree_at-node : (nodes : NodeParts) → AreNodes nodes → (i : ℕ) (node : TermNode ℕ ℕ) → slice_get nodes.terms i ≡ Some node → tree_at nodes i ≡ tree_in nodes node
unfolding trees
tree_at-node nodes is i node e =
    let at = course_of_values-at (tree_over (test_trees nodes)) no_term nodes.terms i node e in
    at.here ∙ tree_over-same (test_trees nodes) (test_trees nodes) at.front (trees nodes) (length nodes.tests) i node (λ j h. refl) at.before (is.terms_ordered i node e)

pub length-trees : (nodes : NodeParts) → length (trees nodes) ≡ length nodes.terms
unfolding trees
length-trees nodes = length-course_of_values (tree_over (test_trees nodes)) nodes.terms

-- and it is the element at the place of the number
pub tree_represents : (nodes : NodeParts) → AreNodes nodes → (i : ℕ) (node : TermNode ℕ ℕ) → slice_get nodes.terms i ≡ Some node → slice_get (trees nodes) i ≡ Some (tree_in nodes node)
unfolding trees
tree_represents nodes is i node e =
    slice_get-get_or (trees nodes) i no_term (rw length-course_of_values (slice_get_within nodes.terms i node e)) ∙ ap Some (tree_at-node nodes is i node e)

-- ---- added nodes keep the trees

-- the tree of a node over older terms depends only on the trees of the older tests
tests_suffice : (tests more_tests : List TestTree) (terms : List Term) (m n : ℕ) (node : TermNode ℕ ℕ) → ((i : ℕ) → i < m → get_or tests i bottom ≡ get_or more_tests i bottom) → IsOver m n node
    → tree_over tests terms node ≡ tree_over more_tests terms node
tests_suffice tests more_tests terms m n node same over = tree_over-same tests more_tests terms terms m n node same (λ i h. refl) over

pub tree_at-kept : (old new : NodeParts) → AreNodes old → IsPrefix old.tests new.tests → IsPrefix old.terms new.terms → (i : ℕ) → IsTerm old i → tree_at new i ≡ tree_at old i
unfolding trees
tree_at-kept old new is tests (more, e) i h =
    ap (λ nodes. get_or (course_of_values (tree_over (test_trees new)) nodes) i no_term) e
    ∙ course_of_values-append (tree_over (test_trees new)) old.terms more no_term i h
    ∙ ap (λ terms. get_or terms i no_term)
    (course_of_values-same (tree_over (test_trees new)) (tree_over (test_trees old)) old.terms
    (λ place node p before. tests_suffice (test_trees new) (test_trees old) before (length old.tests) place node (test_tree_at-kept old new tests) (is.terms_ordered place node p)))

pub tree_in-kept : (old new : NodeParts) → ((i : ℕ) → IsTest old i → test_tree_at new i ≡ test_tree_at old i) → ((i : ℕ) → IsTerm old i → tree_at new i ≡ tree_at old i)
    → (node : TermNode ℕ ℕ) → IsOver (length old.tests) (length old.terms) node → tree_in new node ≡ tree_in old node
tree_in-kept old new tests terms node over = tree_over-same (test_trees new) (test_trees old) (trees new) (trees old) (length old.tests) (length old.terms) node tests terms over

-- ---- one id for each tree

module _ (nodes : NodeParts) where
  -- nodes with the same tree are equal, if the numbers that they name have different trees
  same_node : (m n tests : ℕ) (a b : TermNode ℕ ℕ) → ((i j : ℕ) → i < tests → j < tests → test_tree_at nodes i ≡ test_tree_at nodes j → i ≡ j)
      → ((i j : ℕ) → i < m → j < n → tree_at nodes i ≡ tree_at nodes j → i ≡ j) → IsOver tests m a → IsOver tests n b → tree_in nodes a ≡ tree_in nodes b → a ≡ b
  same_node m n tests Zero Zero first second p q e = refl
  same_node m n tests One One first second p q e = refl
  same_node m n tests (Test i) (Test j) first second p q e =
      let inner : test_tree_at nodes i ≡ test_tree_at nodes j = cc in
      ap Test (first i j p q inner)
  same_node m n tests (Act a) (Act b) first second p q e = cc
  same_node m n tests (Sum i j) (Sum k l) first second p q e =
      let left : tree_at nodes i ≡ tree_at nodes k = cc in
      let right : tree_at nodes j ≡ tree_at nodes l = cc in
      λ v. Sum (second i k p.0 q.0 left v) (second j l p.1 q.1 right v)
  same_node m n tests (Seq i j) (Seq k l) first second p q e =
      let left : tree_at nodes i ≡ tree_at nodes k = cc in
      let right : tree_at nodes j ≡ tree_at nodes l = cc in
      λ v. Seq (second i k p.0 q.0 left v) (second j l p.1 q.1 right v)
  same_node m n tests (Star i) (Star j) first second p q e =
      let inner : tree_at nodes i ≡ tree_at nodes j = cc in
      ap Star (second i j p q inner)
  same_node m n tests _ _ first second p q e = cc

  pub node_of : (i : ℕ) → IsTerm nodes i → (node : TermNode ℕ ℕ) × (slice_get nodes.terms i ≡ Some node)
  node_of i h = (get_or nodes.terms i Zero, slice_get-get_or nodes.terms i Zero h)

  same_id : AreNodes nodes → (bound i j : ℕ) → i < bound → IsTerm nodes i → IsTerm nodes j → tree_at nodes i ≡ tree_at nodes j → i ≡ j
  same_id is zero i j low h k e = absurd (omega arith)
  same_id is (suc bound) i j low h k e =
      let m = node_of i h in
      let n = node_of j k in
      let trees = sym (tree_at-node nodes is i m.0 m.1) ∙ e ∙ tree_at-node nodes is j n.0 n.1 in
      let same = same_node i j (length nodes.tests) m.0 n.0 (one_id_a_test nodes is) (λ v w v_low w_low. same_id is bound v w (omega arith) (omega arith) (omega arith)) (is.terms_ordered i m.0 m.1) (is.terms_ordered j n.0 n.1) trees in
      one_place nodes.terms is.terms_once i j n.0 (m.1 ∙ ap Some same) n.1

  pub one_id_a_tree : AreNodes nodes → (i j : ℕ) → IsTerm nodes i → IsTerm nodes j → tree_at nodes i ≡ tree_at nodes j → i ≡ j
  one_id_a_tree is i j h k e = same_id is (suc i) i j (omega arith) h k e

  -- a node whose tree some id has is in the list
  pub node_represents : AreNodes nodes → (node : TermNode ℕ ℕ) → IsOver (length nodes.tests) (length nodes.terms) node → HasTree nodes (tree_in nodes node) → Contains nodes.terms node
  node_represents is node over (i, h, e) =
      let m = node_of i h in
      let same = same_node i (length nodes.terms) (length nodes.tests) m.0 node (one_id_a_test nodes is) (λ v w v_low w_low. one_id_a_tree is v w (omega arith) w_low) (is.terms_ordered i m.0 m.1) over (sym (tree_at-node nodes is i m.0 m.1) ∙ e) in
      contains_at nodes.terms i node (m.1 ∙ ap Some same)
