-- The numbers of a certificate have the same trees as the ids of the store.
use Rattle.std.proofs.Common.{◌≡◌, ◌<◌, inl, inr, ℕ, zero, suc, List, [], ◌∷◌, length, get_or, map, slice_get, Option, Some, None, refl, sym, ap, ◌∙◌, subst, arith}
use Rattle.std.proofs.lemmas.Option.{get_or_from_slice_get, slice_get_within, slice_get-get_or}
use Rattle.std.proofs.lemmas.List.{length-map}
use Rattle.std.specs.Option.{option_map, option_to_list}
use Rattle.kat_model.specs.Trees.{complement, meet, join, Term, zero as nothing, test as test_term, sum, product, star}
use Rattle.kat_model.specs.Members.{Has, IsSubset}
use Rattle.kat_model.proofs.Places.{has_at, place_of_member}
use Rattle.term_nodes.specs.NumberSets.{terms_of}
use Rattle.certificate.specs.declared.nodes.Style.{Style}
use Rattle.certificate.specs.Certs.{nodes_of}
use Rattle.term_nodes.specs.NodeTrees.{test_tree_at, tree_at, test_tree_in, tree_in, trees, HasTree}
use Rattle.certificate.specs.Accepted.{test_of, tested_pair_of, tested_pairs}
use Rattle.term_nodes.specs.NodeLists.{NodeParts, AreNodes}
use Rattle.term_nodes.specs.declared.TestNode.{TestNode}
use Rattle.term_nodes.specs.declared.TestNode.TheVariants as test
use Rattle.term_nodes.specs.declared.TermNode.{TermNode}
use Rattle.term_nodes.specs.declared.TermNode.TheVariants.{Zero, One, Test, Act, Sum, Seq, Star}
use Rattle.term_nodes.proofs.TestTrees.{test_tree_at-node}
use Rattle.term_nodes.proofs.TermTrees.{tree_at-node, length-trees}
use Rattle.certificate.specs.PairParts.{PairParts}
use Rattle.walk_pairs.specs.StoredPairs.{AreStoredPairs}
use Rattle.term_nodes.specs.Nodes.{term_parts, tests_of_term, test_parts}
use Rattle.walk_pairs.specs.Numbering.{number_of, numbers_of, number_pair_of, test_node_of, term_node_of}
use Rattle.certificate.proofs.Ascending.{ascending_once}
use Rattle.term_nodes.proofs.Parts.{IsOver-part, IsTestOver-part}
use Rattle.walk_pairs.proofs.PlaceNumbers.{number_at, number_of_place, at_mapped}
use Rattle.walk_pairs.proofs.StoreCerts.{numbered_cert, AreNeeded, test_at, term_at, test_there, term_there, test_parts_there, terms_there, tests_there, members_there, pair_tests_there, pair_test_of, numbered_rules}

module _ (store : NodeParts) (es : List PairParts) (terms named tests : List ℕ) (needed : AreNeeded store es terms named tests) (style : Style) (n : ℕ) (sets : AreStoredPairs store style n es) where
  abbrev cert_nodes : NodeParts
  cert_nodes = nodes_of (numbered_cert style store tests terms es)

  rules : AreNodes cert_nodes
  rules = (numbered_rules store es terms named tests needed style n sets).nodes

  abbrev HasTestAt : ℕ → Type 0
  HasTestAt i = test_tree_at cert_nodes (number_of tests i) ≡ test_tree_at store i

  abbrev HasTermAt : ℕ → Type 0
  HasTermAt i = tree_at cert_nodes (number_of terms i) ≡ tree_at store i

  test_by_parts : (s : TestNode ℕ) → ((j : ℕ) → Has (test_parts s) j → HasTestAt j) → test_tree_in cert_nodes (test_node_of tests s) ≡ test_tree_in store s
  test_by_parts test.False parts = refl
  test_by_parts test.True parts = refl
  test_by_parts (test.Prim k) parts = refl
  test_by_parts (test.Not i) parts = ap complement (parts i (inl refl))
  test_by_parts (test.And i j) parts = λ v. meet (parts i (inl refl) v) (parts j (inr (inl refl)) v)
  test_by_parts (test.Or i j) parts = λ v. join (parts i (inl refl) v) (parts j (inr (inl refl)) v)

  test_below : (bound i : ℕ) → i < bound → Has tests i → HasTestAt i
  test_below zero i low h = absurd (omega (arith, low))
  test_below (suc bound) i low h =
      let there = test_there store es terms named tests needed i h in
      let node = test_node_of tests (test_at store i) in
      let at = at_mapped (λ k. test_node_of tests (test_at store k)) tests (number_of tests i) i (number_at tests i h) in
      let less = IsTestOver-part i (test_at store i) (needed.rules.tests_ordered i (test_at store i) there) in
      test_tree_at-node cert_nodes rules (number_of tests i) node at
      ∙ test_by_parts (test_at store i) (λ j m. test_below bound j (let under = less j m in omega (arith, low, under)) (test_parts_there store es terms named tests needed i h j m))
      ∙ sym (test_tree_at-node store needed.rules i (test_at store i) there)

  test_tree_kept : (i : ℕ) → Has tests i → HasTestAt i
  test_tree_kept i h = test_below (suc i) i (omega arith) h

  term_by_parts : (s : TermNode ℕ ℕ) → ((j : ℕ) → Has (tests_of_term s) j → HasTestAt j) → ((j : ℕ) → Has (term_parts s) j → HasTermAt j) → tree_in cert_nodes (term_node_of tests terms s) ≡ tree_in store s
  term_by_parts Zero guards parts = refl
  term_by_parts One guards parts = refl
  term_by_parts (Test i) guards parts = ap test_term (guards i (inl refl))
  term_by_parts (Act a) guards parts = refl
  term_by_parts (Sum i j) guards parts = λ v. sum (parts i (inl refl) v) (parts j (inr (inl refl)) v)
  term_by_parts (Seq i j) guards parts = λ v. product (parts i (inl refl) v) (parts j (inr (inl refl)) v)
  term_by_parts (Star i) guards parts = ap star (parts i (inl refl))

  term_below : (bound i : ℕ) → i < bound → Has terms i → HasTermAt i
  term_below zero i low h = absurd (omega (arith, low))
  term_below (suc bound) i low h =
      let there = term_there store es terms named tests needed i h in
      let node = term_node_of tests terms (term_at store i) in
      let at = at_mapped (λ k. term_node_of tests terms (term_at store k)) terms (number_of terms i) i (number_at terms i h) in
      let less = IsOver-part (length store.tests) i (term_at store i) (needed.rules.terms_ordered i (term_at store i) there) in
      tree_at-node cert_nodes rules (number_of terms i) node at
      ∙ term_by_parts (term_at store i) (λ j m. test_tree_kept j (tests_there store es terms named tests needed i h j m))
      (λ j m. term_below bound j (let under = less j m in omega (arith, low, under)) (terms_there store es terms named tests needed i h j m))
      ∙ sym (tree_at-node store needed.rules i (term_at store i) there)

  term_tree_kept : (i : ℕ) → Has terms i → HasTermAt i
  term_tree_kept i h = term_below (suc i) i (omega arith) h

  -- the numbers of a set of ids have the same trees as the ids
  set_numbered : (set : List ℕ) → IsSubset set terms → terms_of cert_nodes (numbers_of terms set) ≡ terms_of store set
  set_numbered [] within = refl
  set_numbered (i ∷ set) within = λ v. term_tree_kept i (within i (inl refl)) v ∷ set_numbered set (λ j h. within j (inr h)) v

  -- the number of the test of a pair has the same tree as its id
  test_numbered : (t : Option ℕ) → ((k : ℕ) → Has (option_to_list t) k → Has tests k) → test_of cert_nodes (option_map (number_of tests) t) ≡ test_of store t
  test_numbered None within = refl
  test_numbered (Some k) within = test_tree_kept k (within k (inl refl))

  -- the ids that the pair names are among the ids of the certificate
  abbrev HasPair : PairParts → Type 0
  HasPair p = IsSubset p.left terms × IsSubset p.right terms × ((k : ℕ) → Has (option_to_list p.test) k → Has tests k)

  tested_numbered : (ps : List PairParts) → ((p : PairParts) → Has ps p → HasPair p) → map (tested_pair_of cert_nodes) (map (number_pair_of tests terms) ps) ≡ map (tested_pair_of store) ps
  tested_numbered [] within = refl
  tested_numbered (p ∷ ps) within =
      let own = within p (inl refl) in
      λ v. record {
        sets = record { left = set_numbered p.left own.0 v; right = set_numbered p.right own.1 v };
        test = test_numbered p.test own.2 v;
      } ∷ tested_numbered ps (λ q h. within q (inr h)) v

  pub pairs_numbered : tested_pairs (numbered_cert style store tests terms es) ≡ map (tested_pair_of store) es
  pairs_numbered =
      tested_numbered es
      (λ p h.
      let sets_there = members_there store es terms named tests needed p h in
      (sets_there.0, sets_there.1, (λ k m. pair_tests_there store es terms named tests needed k (pair_test_of es p h k m))))

  -- each tree of the certificate is the tree of some id of the store
  pub trees_have_ids : (t : Term) → Has (trees cert_nodes) t → HasTree store t
  trees_have_ids t h =
      let place = place_of_member (trees cert_nodes) t h in
      let k : ℕ = place.0 in
      let within : k < length (trees cert_nodes) = slice_get_within (trees cert_nodes) k t place.1 in
      let many : length (trees cert_nodes) ≡ length terms = length-trees cert_nodes ∙ length-map terms (λ i. term_node_of tests terms (term_at store i)) in
      let here : slice_get terms k ≡ Some (get_or terms k 0) = slice_get-get_or terms k 0 (subst (λ z. k < z) many within) in
      let i : ℕ = get_or terms k 0 in
      let there = has_at terms k i here in
      let own = number_of_place terms (ascending_once terms needed.of_terms.ascending) k i here in
      (i, needed.of_terms.there i there, sym (term_tree_kept i there) ∙ ap (tree_at cert_nodes) own ∙ get_or_from_slice_get (trees cert_nodes) k t nothing place.1)
