-- The certificate built from ids of a store with all their parts satisfies the rules of certificates.
use Rattle.std.proofs.Common.{◌≡◌, ◌<◌, inl, inr, ⊎_elim, ℕ, true, List, ◌++◌, length, get_or, map, slice_get, Option, Some, [], ◌∷◌, refl, sym, ap, ◌∙◌, subst}
use Rattle.std.proofs.lemmas.List.{length-map}
use Rattle.std.proofs.lemmas.Option.{slice_get-get_or}
use Rattle.std.specs.Option.{option_map, option_to_list}
use Rattle.kat_model.specs.Members.{Has, IsSubset, HasNoDoubles}
use Rattle.kat_model.proofs.Lists.{has_left, has_right, has_append, has_map, has_flat_map}
use Rattle.kat_model.proofs.Places.{has_at, one_place}
use Rattle.term_nodes.specs.declared.TestNode.{TestNode}
use Rattle.term_nodes.specs.declared.TermNode.{TermNode}
use Rattle.certificate.specs.declared.nodes.Style.{Style}
use Rattle.certificate.specs.declared.nodes.Style.TheVariants.{Plain, UpTo, Under}
use Rattle.term_nodes.specs.Nodes.{IsTestOver, IsOver, test_parts, term_parts, tests_of_term}
use Rattle.term_nodes.specs.NumberSets.{are_below, are_ascending, IsNumberSet}
use Rattle.certificate.specs.Certs.{CertParts, cert_of, HasItsTest, IsPairOf, IsCert}
use Rattle.term_nodes.specs.NodeLists.{NodeParts, AreNodes}
use Rattle.term_nodes.specs.declared.TestNode.TheVariants as test
use Rattle.term_nodes.specs.declared.TermNode.TheVariants.{Zero, One, Test, Act, Sum, Seq, Star}
use Rattle.certificate.specs.PairParts.{PairParts}
use Rattle.walk_pairs.specs.StoredPairs.{AreStoredPairs}
use Rattle.walk_pairs.specs.Needed.{AreParts, NamesAllTests, members_of, tests_of_pairs}
use Rattle.walk_pairs.specs.Numbering.{number_of, numbers_of, number_pair_of, test_node_of, term_node_of, test_nodes_of, term_nodes_of}
use Rattle.certificate.proofs.Ascending.{ascending_once}
use Rattle.term_nodes.proofs.Parts.{IsOver-part, IsTestOver-part}
use Rattle.walk_pairs.proofs.PartSets.{member_of}
use Rattle.walk_pairs.proofs.PlaceNumbers.{number_within, number_of_place, number_once, number_less, numbers_below, numbers_ascend, once_mapped, mapped_at}

-- the certificate of pairs, with the numbered nodes of the given tests and terms
abbrev pub numbered_cert : Style → NodeParts → List ℕ → List ℕ → List PairParts → CertParts
numbered_cert style store tests terms es = cert_of style (test_nodes_of store tests tests) (term_nodes_of store tests terms terms) (map (number_pair_of tests terms) es)

-- a numbered node names earlier numbers if the numbers of the parts of its store node are smaller
test_over_numbered : (tests : List ℕ) (n : ℕ) (s : TestNode ℕ) → ((j : ℕ) → Has (test_parts s) j → number_of tests j < n) → IsTestOver n (test_node_of tests s)
test_over_numbered tests n test.False each = tt
test_over_numbered tests n test.True each = tt
test_over_numbered tests n (test.Prim k) each = tt
test_over_numbered tests n (test.Not i) each = each i (inl refl)
test_over_numbered tests n (test.And i j) each = (each i (inl refl), each j (inr (inl refl)))
test_over_numbered tests n (test.Or i j) each = (each i (inl refl), each j (inr (inl refl)))

over_numbered : (tests terms : List ℕ) (m n : ℕ) (s : TermNode ℕ ℕ) → ((j : ℕ) → Has (tests_of_term s) j → number_of tests j < m) → ((j : ℕ) → Has (term_parts s) j → number_of terms j < n) → IsOver m n (term_node_of tests terms s)
over_numbered tests terms m n Zero guards each = tt
over_numbered tests terms m n One guards each = tt
over_numbered tests terms m n (Test i) guards each = guards i (inl refl)
over_numbered tests terms m n (Act a) guards each = tt
over_numbered tests terms m n (Sum i j) guards each = (each i (inl refl), each j (inr (inl refl)))
over_numbered tests terms m n (Seq i j) guards each = (each i (inl refl), each j (inr (inl refl)))
over_numbered tests terms m n (Star i) guards each = each i (inl refl)

-- two nodes with the same numbered node are equal if everything that they name has a number
module _ (tests : List ℕ) where
  one_test : (i j : ℕ) → Has tests i → Has tests j → number_of tests i ≡ number_of tests j → i ≡ j
  one_test i j h k e = number_once tests i j h k e

  same_test_shape : (a b : TestNode ℕ) → IsSubset (test_parts a) tests → IsSubset (test_parts b) tests → test_node_of tests a ≡ test_node_of tests b → a ≡ b
  same_test_shape test.False test.False p q e = refl
  same_test_shape test.True test.True p q e = refl
  same_test_shape (test.Prim k) (test.Prim l) p q e = cc
  same_test_shape (test.Not i) (test.Not j) p q e =
      let inner : number_of tests i ≡ number_of tests j = cc in
      ap test.Not (one_test i j (p i (inl refl)) (q j (inl refl)) inner)
  same_test_shape (test.And i j) (test.And k l) p q e =
      let left : number_of tests i ≡ number_of tests k = cc in
      let right : number_of tests j ≡ number_of tests l = cc in
      λ v. test.And (one_test i k (p i (inl refl)) (q k (inl refl)) left v) (one_test j l (p j (inr (inl refl))) (q l (inr (inl refl))) right v)
  same_test_shape (test.Or i j) (test.Or k l) p q e =
      let left : number_of tests i ≡ number_of tests k = cc in
      let right : number_of tests j ≡ number_of tests l = cc in
      λ v. test.Or (one_test i k (p i (inl refl)) (q k (inl refl)) left v) (one_test j l (p j (inr (inl refl))) (q l (inr (inl refl))) right v)
  same_test_shape _ _ p q e = cc

  module _ (terms : List ℕ) where
    one_term : (i j : ℕ) → Has terms i → Has terms j → number_of terms i ≡ number_of terms j → i ≡ j
    one_term i j h k e = number_once terms i j h k e

    same_shape : (a b : TermNode ℕ ℕ) → IsSubset (tests_of_term a) tests → IsSubset (tests_of_term b) tests → IsSubset (term_parts a) terms → IsSubset (term_parts b) terms → term_node_of tests terms a ≡ term_node_of tests terms b → a ≡ b
    same_shape Zero Zero m n p q e = refl
    same_shape One One m n p q e = refl
    same_shape (Test i) (Test j) m n p q e =
        let inner : number_of tests i ≡ number_of tests j = cc in
        ap Test (one_test i j (m i (inl refl)) (n j (inl refl)) inner)
    same_shape (Act a) (Act b) m n p q e = cc
    same_shape (Sum i j) (Sum k l) m n p q e =
        let left : number_of terms i ≡ number_of terms k = cc in
        let right : number_of terms j ≡ number_of terms l = cc in
        λ v. Sum (one_term i k (p i (inl refl)) (q k (inl refl)) left v) (one_term j l (p j (inr (inl refl))) (q l (inr (inl refl))) right v)
    same_shape (Seq i j) (Seq k l) m n p q e =
        let left : number_of terms i ≡ number_of terms k = cc in
        let right : number_of terms j ≡ number_of terms l = cc in
        λ v. Seq (one_term i k (p i (inl refl)) (q k (inl refl)) left v) (one_term j l (p j (inr (inl refl))) (q l (inr (inl refl))) right v)
    same_shape (Star i) (Star j) m n p q e =
        let inner : number_of terms i ≡ number_of terms j = cc in
        ap Star (one_term i j (p i (inl refl)) (q j (inl refl)) inner)
    same_shape _ _ m n p q e = cc

-- the terms of the pairs with all their parts, and the tests that terms and pairs name with all their parts
pub record AreNeeded (store : NodeParts) (es : List PairParts) (terms named tests : List ℕ) : Type 0 where
  pub rules : AreNodes store
  pub of_terms : AreParts (TermNode ℕ ℕ) store.terms term_parts (members_of es) terms
  pub names : NamesAllTests store terms es named
  pub of_tests : AreParts (TestNode ℕ) store.tests test_parts named tests

-- the members of pairs are ids of terms
pub members_are_ids : (store : NodeParts) (style : Style) (n : ℕ) (es : List PairParts) → AreStoredPairs store style n es → (i : ℕ) → Has (members_of es) i → i < length store.terms
members_are_ids store style n es sets i h =
    let r = has_flat_map (λ (e : PairParts). e.left ++ e.right) es i h in
    let set = sets r.0 r.1 in
    ⊎_elim (λ l. (set.left.there i l).is_id) (λ m. (set.right.there i m).is_id) (has_append r.0.left r.0.right i r.2)

-- a test that the style requires is a test of the store
its_test : (style : Style) (n : ℕ) (t : Option ℕ) → HasItsTest style n t → (k : ℕ) → Has (option_to_list t) k → k < n
its_test Plain n t is k h = absurd (subst (λ o. Has (option_to_list o) k) is h)
its_test UpTo n t is k h = absurd (subst (λ o. Has (option_to_list o) k) is h)
its_test Under n t is k h = ⊎_elim (λ s. subst (λ z. z < n) s is.2) absurd (subst (λ o. Has (option_to_list o) k) is.1 h)

-- the tests of pairs are ids of tests
pub pair_tests_are_ids : (store : NodeParts) (style : Style) (n : ℕ) (es : List PairParts) → AreStoredPairs store style n es → (i : ℕ) → Has (tests_of_pairs es) i → i < length store.tests
pair_tests_are_ids store style n es sets i h =
    let r = has_flat_map (λ (e : PairParts). option_to_list e.test) es i h in
    its_test style (length store.tests) r.0.test (sets r.0 r.1).test i r.2

-- the test of a listed pair is among the tests of the list
pub pair_test_of : (ps : List PairParts) (p : PairParts) → Has ps p → (k : ℕ) → Has (option_to_list p.test) k → Has (tests_of_pairs ps) k
pair_test_of [] p h k m = absurd h
pair_test_of (q ∷ ps) p h k m =
    ⊎_elim
    (λ s. has_left (option_to_list q.test) (tests_of_pairs ps) k (subst (λ (r : PairParts). Has (option_to_list r.test) k) (sym s) m))
    (λ r. has_right (option_to_list q.test) (tests_of_pairs ps) k (pair_test_of ps p r k m))
    h

-- a test mapped to its number fits a certificate of the same style
its_number : (tests : List ℕ) (style : Style) (n m : ℕ) (t : Option ℕ) → HasItsTest style n t → ((k : ℕ) → Has (option_to_list t) k → number_of tests k < m) → HasItsTest style m (option_map (number_of tests) t)
its_number tests Plain n m t is low = ap (option_map (number_of tests)) is
its_number tests UpTo n m t is low = ap (option_map (number_of tests)) is
its_number tests Under n m t is low = (number_of tests is.0, ap (option_map (number_of tests)) is.1, low is.0 (subst (λ o. Has (option_to_list o) is.0) (sym is.1) (inl refl)))

-- the node of an id
abbrev pub test_at : NodeParts → ℕ → TestNode ℕ
test_at store i = get_or store.tests i test.False

abbrev pub term_at : NodeParts → ℕ → TermNode ℕ ℕ
term_at store i = get_or store.terms i Zero

module _ (store : NodeParts) (es : List PairParts) (terms named tests : List ℕ) (needed : AreNeeded store es terms named tests) where
  pub test_there : (i : ℕ) → Has tests i → slice_get store.tests i ≡ Some (test_at store i)
  test_there i h = slice_get-get_or store.tests i test.False (needed.of_tests.there i h)

  pub term_there : (i : ℕ) → Has terms i → slice_get store.terms i ≡ Some (term_at store i)
  term_there i h = slice_get-get_or store.terms i Zero (needed.of_terms.there i h)

  pub test_parts_there : (i : ℕ) → Has tests i → IsSubset (test_parts (test_at store i)) tests
  test_parts_there i h = needed.of_tests.parts i (test_at store i) h (test_there i h)

  pub terms_there : (i : ℕ) → Has terms i → IsSubset (term_parts (term_at store i)) terms
  terms_there i h = needed.of_terms.parts i (term_at store i) h (term_there i h)

  -- the certificate has the tests that a node of its terms names
  pub tests_there_in : (i : ℕ) (shape : TermNode ℕ ℕ) → Has terms i → slice_get store.terms i ≡ Some shape → IsSubset (tests_of_term shape) tests
  tests_there_in i shape h e j k = needed.of_tests.holds j ((needed.names j).1 (inl (record { term = i; shape = shape; member = h; at = e; names = k })))

  pub tests_there : (i : ℕ) → Has terms i → IsSubset (tests_of_term (term_at store i)) tests
  tests_there i h = tests_there_in i (term_at store i) h (term_there i h)

  pub members_there : (e : PairParts) → Has es e → IsSubset e.left terms × IsSubset e.right terms
  members_there e h = (
    (λ x m. needed.of_terms.holds x (member_of es e h x (has_left e.left e.right x m))),
    (λ x m. needed.of_terms.holds x (member_of es e h x (has_right e.left e.right x m))),
  )

  pub pair_tests_there : IsSubset (tests_of_pairs es) tests
  pair_tests_there j h = needed.of_tests.holds j ((needed.names j).1 (inr h))

  -- each node of a test names earlier nodes
  test_rule : (k : ℕ) (n : TestNode ℕ) → slice_get (test_nodes_of store tests tests) k ≡ Some n → IsTestOver k n
  test_rule k n e =
      let r = mapped_at (λ i. test_node_of tests (test_at store i)) tests k n e in
      let h = has_at tests k r.0 r.1 in
      let own : number_of tests r.0 ≡ k = number_of_place tests (ascending_once tests needed.of_tests.ascending) k r.0 r.1 in
      let less = IsTestOver-part r.0 (test_at store r.0) (needed.rules.tests_ordered r.0 (test_at store r.0) (test_there r.0 h)) in
      subst (IsTestOver k) r.2
      (test_over_numbered tests k (test_at store r.0) (λ j p. subst (λ z. number_of tests j < z) own (number_less tests needed.of_tests.ascending j r.0 (test_parts_there r.0 h j p) h (less j p))))

  -- each node of a term names earlier nodes, and tests that the certificate has
  term_rule : (k : ℕ) (n : TermNode ℕ ℕ) → slice_get (term_nodes_of store tests terms terms) k ≡ Some n → IsOver (length (test_nodes_of store tests tests)) k n
  term_rule k n e =
      let r = mapped_at (λ i. term_node_of tests terms (term_at store i)) terms k n e in
      let h = has_at terms k r.0 r.1 in
      let own : number_of terms r.0 ≡ k = number_of_place terms (ascending_once terms needed.of_terms.ascending) k r.0 r.1 in
      let less = IsOver-part (length store.tests) r.0 (term_at store r.0) (needed.rules.terms_ordered r.0 (term_at store r.0) (term_there r.0 h)) in
      subst (IsOver (length (test_nodes_of store tests tests)) k) r.2
      (over_numbered tests terms (length (test_nodes_of store tests tests)) k (term_at store r.0)
      (λ j p. subst (λ z. number_of tests j < z) (sym (length-map tests (λ i. test_node_of tests (test_at store i)))) (number_within tests j (tests_there r.0 h j p)))
      (λ j p. subst (λ z. number_of terms j < z) own (number_less terms needed.of_terms.ascending j r.0 (terms_there r.0 h j p) h (less j p))))

  tests_once : HasNoDoubles (test_nodes_of store tests tests)
  tests_once =
      once_mapped (λ i. test_node_of tests (test_at store i)) tests (ascending_once tests needed.of_tests.ascending)
      (λ i j h k e. one_place store.tests needed.rules.tests_once i j (test_at store j) (test_there i h ∙ ap Some (same_test_shape tests (test_at store i) (test_at store j) (test_parts_there i h) (test_parts_there j k) e)) (test_there j k))

  terms_once : HasNoDoubles (term_nodes_of store tests terms terms)
  terms_once =
      once_mapped (λ i. term_node_of tests terms (term_at store i)) terms (ascending_once terms needed.of_terms.ascending)
      (λ i j h k e.
      one_place store.terms needed.rules.terms_once i j (term_at store j)
      (term_there i h ∙ ap Some (same_shape tests terms (term_at store i) (term_at store j) (tests_there i h) (tests_there j k) (terms_there i h) (terms_there j k) e)) (term_there j k))

  number_set : (set : List ℕ) → IsSubset set terms → are_ascending set ≡ true → IsNumberSet (length (term_nodes_of store tests terms terms)) (numbers_of terms set)
  number_set set within up = record {
    there = subst (λ z. are_below z (numbers_of terms set) ≡ true) (sym (length-map terms (λ i. term_node_of tests terms (term_at store i)))) (numbers_below terms set (length terms) (λ i h. number_within terms i (within i h)));
    ascending = numbers_ascend terms needed.of_terms.ascending set up within;
  }

  pub numbered_rules : (style : Style) (n : ℕ) → AreStoredPairs store style n es → IsCert (numbered_cert style store tests terms es)
  numbered_rules style n sets = record {
    nodes = record { tests_ordered = test_rule; terms_ordered = term_rule; tests_once = tests_once; terms_once = terms_once };
    pairs = λ p h.
        let r = has_map (number_pair_of tests terms) es p h in
        let set = sets r.0 r.1 in
        let within = members_there r.0 r.1 in
        let test_nodes = test_nodes_of store tests tests in
        let low : (k : ℕ) → Has (option_to_list r.0.test) k → number_of tests k < length test_nodes =
        λ k m. subst (λ z. number_of tests k < z) (sym (length-map tests (λ i. test_node_of tests (test_at store i)))) (number_within tests k (pair_tests_there k (pair_test_of es r.0 r.1 k m))) in
        subst (IsPairOf (numbered_cert style store tests terms es)) r.2
        (record {
          left = number_set r.0.left within.0 set.left.ascending;
          right = number_set r.0.right within.1 set.right.ascending;
          test = its_number tests style (length store.tests) (length test_nodes) r.0.test set.test low;
        });
  }
