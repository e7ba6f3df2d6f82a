-- Parts of sets with the same members, and the tests that terms name.
use Rattle.std.proofs.Common.{◌≡◌, ◌<◌, ◌+◌, ℕ, inl, inr, ⊎_elim, List, [], ◌∷◌, ◌++◌, length, get_or, take, sym, ap, ◌∙◌, subst, append_assoc, append-nil}
use Rattle.std.specs.Option.{option_to_list}
use Rattle.kat_model.specs.Members.{Has, SameMembers}
use Rattle.kat_model.proofs.Lists.{has_left, has_right, has_append}
use Rattle.partial_derivs.proofs.Items.{take_item}
use Rattle.term_nodes.proofs.Parts.{IsOver-test}
use Rattle.term_nodes.specs.NodeLists.{NodeParts, AreNodes}
use Rattle.certificate.specs.PairParts.{PairParts}
use Rattle.walk_pairs.specs.Needed.{IsPart, own, part, AreParts, AddsAll, tests_of_pairs, NamesTests, NamesAllTests}

module _ (N : Type 0) (nodes : List N) (named : N → List ℕ) (from other : List ℕ) (same : SameMembers from other) where
  part_same : {i : ℕ} → IsPart N nodes named from i → IsPart N nodes named other i
  part_same (own i h) = own i ((same i).0 h)
  part_same (part i j node p at m) = part i j node (part_same p) at m

  pub same_parts : (ids new : List ℕ) → new ≡ ids → AreParts N nodes named from ids → AreParts N nodes named other new
  same_parts ids new e p = subst (AreParts N nodes named other) (sym e) (record {
    holds = λ x h. p.holds x ((same x).1 h);
    there = p.there;
    ascending = p.ascending;
    parts = p.parts;
    only = λ i h. part_same (p.only i h);
  })

-- the tests that nodes name are ids of the store
pub named_there : (store : NodeParts) → AreNodes store → (terms named : List ℕ) → NamesTests store terms named → (i : ℕ) → Has named i → i < length store.tests
named_there store rules terms named names i h =
    let r = (names i).0 h in
    IsOver-test (length store.tests) r.term r.shape (rules.terms_ordered r.term r.shape r.at) i r.names

-- so are the tests that terms or pairs name
pub all_there : (store : NodeParts) → AreNodes store → (terms : List ℕ) (ps : List PairParts) (named : List ℕ) → NamesAllTests store terms ps named → ((i : ℕ) → Has (tests_of_pairs ps) i → i < length store.tests) → (i : ℕ) → Has named i → i < length store.tests
all_there store rules terms ps named names of_pairs i h =
    ⊎_elim (λ r. IsOver-test (length store.tests) r.term r.shape (rules.terms_ordered r.term r.shape r.at) i r.names) (of_pairs i) ((names i).0 h)

-- adding the tests of pairs to the tests that terms name
pub names_all : (store : NodeParts) (terms : List ℕ) (ps : List PairParts) (by_terms named : List ℕ) → NamesTests store terms by_terms → AddsAll by_terms named (tests_of_pairs ps) → NamesAllTests store terms ps named
names_all store terms ps by_terms named names adds i = (
  (λ h. ⊎_elim (λ o. inl ((names i).0 o)) inr ((adds i).0 h)),
  (λ r. (adds i).1 (⊎_elim (λ n. inl ((names i).1 n)) inr r)),
)

-- ---- the tests of pairs, collected pair by pair

pair_tests-append : (ps : List PairParts) (p : PairParts) → tests_of_pairs (ps ++ p ∷ []) ≡ tests_of_pairs ps ++ option_to_list p.test
pair_tests-append [] p = append-nil (option_to_list p.test)
pair_tests-append (q ∷ ps) p = ap (λ l. option_to_list q.test ++ l) (pair_tests-append ps p) ∙ sym (append_assoc (option_to_list q.test) (tests_of_pairs ps) (option_to_list p.test))

pub pair_tests_next : (old ks new : List ℕ) (ps : List PairParts) (i : ℕ) (p : PairParts) → i < length ps → p ≡ get_or ps i p → AddsAll ks new (option_to_list p.test) → AddsAll old ks (tests_of_pairs (take i ps)) → AddsAll old new (tests_of_pairs (take (i + 1) ps))
pair_tests_next old ks new ps i p lt is adds before =
    subst (AddsAll old new) (sym (ap tests_of_pairs (take_item ps i p lt is) ∙ pair_tests-append (take i ps) p)) next
  where
    next : AddsAll old new (tests_of_pairs (take i ps) ++ option_to_list p.test)
    next x = (
      (λ h. ⊎_elim
          (λ k. ⊎_elim inl (λ t. inr (has_left (tests_of_pairs (take i ps)) (option_to_list p.test) x t)) ((before x).0 k))
          (λ t. inr (has_right (tests_of_pairs (take i ps)) (option_to_list p.test) x t))
          ((adds x).0 h)),
      (λ h. (adds x).1 (⊎_elim
          (λ o. inl ((before x).1 (inl o)))
          (λ t. ⊎_elim (λ f. inl ((before x).1 (inr f))) inr (has_append (tests_of_pairs (take i ps)) (option_to_list p.test) x t))
          h)),
    )
