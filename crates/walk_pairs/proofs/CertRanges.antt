-- The tests and actions of a certificate are in range if those of the terms of its pairs are.
use Rattle.std.proofs.Common.{◌≡◌, ◌<◌, ⊎_elim, ℕ, List, get_or, slice_get, Some, refl, subst}
use Rattle.kat_model.specs.Trees.{TestTree, bottom, Term, zero as nothing}
use Rattle.kat_model.specs.Members.{Has}
use Rattle.kat_model.specs.Problems.{IsTestInRange, IsInRange}
use Rattle.kat_model.proofs.Lists.{has_map}
use Rattle.term_nodes.specs.NodeLists.{NodeParts}
use Rattle.term_nodes.specs.NodeTrees.{test_tree_over, tree_over, test_tree_at, tree_at, test_trees, trees}
use Rattle.term_nodes.specs.declared.TestNode.{TestNode}
use Rattle.term_nodes.specs.declared.TestNode.TheVariants as test
use Rattle.term_nodes.specs.declared.TermNode.{TermNode}
use Rattle.term_nodes.specs.declared.TermNode.TheVariants.{Zero, One, Test, Act, Sum, Seq, Star}
use Rattle.term_nodes.proofs.TestTrees.{test_tree_at-node}
use Rattle.term_nodes.proofs.TermTrees.{tree_at-node}
use Rattle.certificate.specs.declared.nodes.Style.{Style}
use Rattle.certificate.specs.PairParts.{PairParts}
use Rattle.walk_pairs.specs.StoredPairs.{AreStoredPairs}
use Rattle.term_nodes.specs.Nodes.{term_parts, tests_of_term, test_parts}
use Rattle.walk_pairs.specs.Needed.{IsPart, own, part, members_of}
use Rattle.walk_pairs.specs.Numbering.{test_node_of, term_node_of, test_nodes_of, term_nodes_of, ArePairsWithin, IsCertOf}
use Rattle.walk_pairs.proofs.StoreCerts.{numbered_cert, AreNeeded, test_at, term_at, test_there, term_there}
use Rattle.walk_pairs.proofs.CertTrees.{pairs_numbered, trees_have_ids}

-- a property of the given ids that passes from each node to the ids that it names holds of all parts
module _ (N : Type 0) (nodes : List N) (named : N → List ℕ) (from : List ℕ) (P : ℕ → Type 0) (first : (i : ℕ) → Has from i → P i) (down : (i j : ℕ) (node : N) → slice_get nodes j ≡ Some node → P j → Has (named node) i → P i) where
  part_holds : {i : ℕ} → IsPart N nodes named from i → P i
  part_holds (own i h) = first i h
  part_holds (part i j node p at m) = down i j node at (part_holds p) m

module _ (tests actions : ℕ) where
  -- the parts that a node names are in range if the node is
  named_in_range : (guards : List TestTree) (below : List Term) (s : TermNode ℕ ℕ) → IsInRange tests actions (tree_over guards below s) → (i : ℕ) → Has (term_parts s) i → IsInRange tests actions (get_or below i nothing)
  named_in_range guards below Zero r i h = absurd h
  named_in_range guards below One r i h = absurd h
  named_in_range guards below (Test j) r i h = absurd h
  named_in_range guards below (Act a) r i h = absurd h
  named_in_range guards below (Sum j k) r i h =
      ⊎_elim (λ s. subst (λ z. IsInRange tests actions (get_or below z nothing)) s r.0) (λ m. ⊎_elim (λ s. subst (λ z. IsInRange tests actions (get_or below z nothing)) s r.1) absurd m) h
  named_in_range guards below (Seq j k) r i h =
      ⊎_elim (λ s. subst (λ z. IsInRange tests actions (get_or below z nothing)) s r.0) (λ m. ⊎_elim (λ s. subst (λ z. IsInRange tests actions (get_or below z nothing)) s r.1) absurd m) h
  named_in_range guards below (Star j) r i h = ⊎_elim (λ s. subst (λ z. IsInRange tests actions (get_or below z nothing)) s r) absurd h

  guard_in_range : (guards : List TestTree) (below : List Term) (s : TermNode ℕ ℕ) → IsInRange tests actions (tree_over guards below s) → (i : ℕ) → Has (tests_of_term s) i → IsTestInRange tests (get_or guards i bottom)
  guard_in_range guards below Zero r i h = absurd h
  guard_in_range guards below One r i h = absurd h
  guard_in_range guards below (Test j) r i h = ⊎_elim (λ s. subst (λ z. IsTestInRange tests (get_or guards z bottom)) s r) absurd h
  guard_in_range guards below (Act a) r i h = absurd h
  guard_in_range guards below (Sum j k) r i h = absurd h
  guard_in_range guards below (Seq j k) r i h = absurd h
  guard_in_range guards below (Star j) r i h = absurd h

  test_named_in_range : (below : List TestTree) (s : TestNode ℕ) → IsTestInRange tests (test_tree_over below s) → (i : ℕ) → Has (test_parts s) i → IsTestInRange tests (get_or below i bottom)
  test_named_in_range below test.False r i h = absurd h
  test_named_in_range below test.True r i h = absurd h
  test_named_in_range below (test.Prim k) r i h = absurd h
  test_named_in_range below (test.Not j) r i h = ⊎_elim (λ s. subst (λ z. IsTestInRange tests (get_or below z bottom)) s r) absurd h
  test_named_in_range below (test.And j k) r i h =
      ⊎_elim (λ s. subst (λ z. IsTestInRange tests (get_or below z bottom)) s r.0) (λ m. ⊎_elim (λ s. subst (λ z. IsTestInRange tests (get_or below z bottom)) s r.1) absurd m) h
  test_named_in_range below (test.Or j k) r i h =
      ⊎_elim (λ s. subst (λ z. IsTestInRange tests (get_or below z bottom)) s r.0) (λ m. ⊎_elim (λ s. subst (λ z. IsTestInRange tests (get_or below z bottom)) s r.1) absurd m) h

  prim_in_range : (ids : List ℕ) (below : List TestTree) (s : TestNode ℕ) (k : ℕ) → test_node_of ids s ≡ test.Prim k → IsTestInRange tests (test_tree_over below s) → k < tests
  prim_in_range ids below test.False k e r = absurd cc
  prim_in_range ids below test.True k e r = absurd cc
  prim_in_range ids below (test.Prim j) k e r = let same : j ≡ k = cc in subst (λ z. z < tests) same r
  prim_in_range ids below (test.Not j) k e r = absurd cc
  prim_in_range ids below (test.And i j) k e r = absurd cc
  prim_in_range ids below (test.Or i j) k e r = absurd cc

  act_in_range : (ids more : List ℕ) (guards : List TestTree) (below : List Term) (s : TermNode ℕ ℕ) (a : ℕ) → term_node_of ids more s ≡ Act a → IsInRange tests actions (tree_over guards below s) → a < actions
  act_in_range ids more guards below Zero a e r = absurd cc
  act_in_range ids more guards below One a e r = absurd cc
  act_in_range ids more guards below (Test j) a e r = absurd cc
  act_in_range ids more guards below (Act b) a e r = let same : b ≡ a = cc in subst (λ z. z < actions) same r
  act_in_range ids more guards below (Sum i j) a e r = absurd cc
  act_in_range ids more guards below (Seq i j) a e r = absurd cc
  act_in_range ids more guards below (Star j) a e r = absurd cc

module _ (store : NodeParts) (es : List PairParts) (terms named ids : List ℕ) (needed : AreNeeded store es terms named ids) where
  module _ (tests actions : ℕ) (within : ArePairsWithin store tests actions es) where
    node_range : (i : ℕ) (s : TermNode ℕ ℕ) → slice_get store.terms i ≡ Some s → IsInRange tests actions (tree_at store i) → IsInRange tests actions (tree_over (test_trees store) (trees store) s)
    node_range i s at r = subst (IsInRange tests actions) (tree_at-node store needed.rules i s at) r

    test_node_range : (i : ℕ) (s : TestNode ℕ) → slice_get store.tests i ≡ Some s → IsTestInRange tests (test_tree_at store i) → IsTestInRange tests (test_tree_over (test_trees store) s)
    test_node_range i s at r = subst (IsTestInRange tests) (test_tree_at-node store needed.rules i s at) r

    term_range : (i : ℕ) → Has terms i → IsInRange tests actions (tree_at store i)
    term_range i h =
        part_holds (TermNode ℕ ℕ) store.terms term_parts (members_of es) (λ k. IsInRange tests actions (tree_at store k)) within.terms
        (λ k j s at r m. named_in_range tests actions (test_trees store) (trees store) s (node_range j s at r) k m) (needed.of_terms.only i h)

    named_range : (i : ℕ) → Has named i → IsTestInRange tests (test_tree_at store i)
    named_range i h =
        ⊎_elim
        (λ r. guard_in_range tests actions (test_trees store) (trees store) r.shape (node_range r.term r.shape r.at (term_range r.term r.member)) i r.names)
        (within.guards i)
        ((needed.names i).0 h)

    test_range : (i : ℕ) → Has ids i → IsTestInRange tests (test_tree_at store i)
    test_range i h =
        part_holds (TestNode ℕ) store.tests test_parts named (λ k. IsTestInRange tests (test_tree_at store k)) named_range
        (λ k j s at r m. test_named_in_range tests actions (test_trees store) s (test_node_range j s at r) k m) (needed.of_tests.only i h)

    prims_range : (k : ℕ) → Has (test_nodes_of store ids ids) (test.Prim k) → k < tests
    prims_range k h =
        let r = has_map (λ i. test_node_of ids (test_at store i)) ids (test.Prim k) h in
        prim_in_range tests actions ids (test_trees store) (test_at store r.0) k r.2 (test_node_range r.0 (test_at store r.0) (test_there store es terms named ids needed r.0 r.1) (test_range r.0 r.1))

    acts_range : (a : ℕ) → Has (term_nodes_of store ids terms terms) (Act a) → a < actions
    acts_range a h =
        let r = has_map (λ i. term_node_of ids terms (term_at store i)) terms (Act a) h in
        act_in_range tests actions ids terms (test_trees store) (trees store) (term_at store r.0) a r.2 (node_range r.0 (term_at store r.0) (term_there store es terms named ids needed r.0 r.1) (term_range r.0 r.1))

  -- the numbered certificate is a certificate of the pairs
  pub numbered_is : (style : Style) (n : ℕ) → AreStoredPairs store style n es → IsCertOf store style es (numbered_cert style store ids terms es)
  numbered_is style n sets = record {
    style_is = refl;
    pairs = pairs_numbered store es terms named ids needed style n sets;
    ids = trees_have_ids store es terms named ids needed style n sets;
    tests_in_range = λ tests actions within k h. prims_range tests actions within k h;
    actions_in_range = λ tests actions within a h. acts_range tests actions within a h;
  }
