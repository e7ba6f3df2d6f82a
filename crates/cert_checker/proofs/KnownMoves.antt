-- What is known of a move: whether it counts, and which listed pairs count at its end.
use Rattle.std.proofs.Common.{◌≡◌, ◌⊎◌, ℕ, inl, inr, ⊎_elim, List, map, refl, sym, ap, ◌∙◌, subst, Bool, true, false, ◌&&◌, Option, Some, None}
use Rattle.std.specs.List.{list_any}
use Rattle.std.proofs.lemmas.Bool.{true≢false, and_right, and_parts, and_from, or_cases}
use Rattle.kat_model.specs.Members.{Has, IsSubset}
use Rattle.kat_model.specs.Steps.{Atom, truth}
use Rattle.kat_model.specs.TestedPairs.{TestedPair, pairs_at}
use Rattle.kat_model.proofs.Lists.{has_any, has_map, map_has}
use Rattle.kat_model.proofs.PairsUnderTests.{has_pairs_at, pairs_at_has}
use Rattle.term_nodes.specs.NumberSets.{NumberPair, set_pairs_of, terms_of}
use Rattle.certificate.specs.PairParts.{PairParts, only_sets}
use Rattle.certificate.specs.Accepted.{tested_pair_of}
use Rattle.cert_checker.specs.NodeTables.{TableParts, holds_at, nodes_in}
use Rattle.cert_checker.specs.declared.known.TestCase.{TestCase}
use Rattle.cert_checker.specs.declared.known.Truth.{Truth}
use Rattle.cert_checker.specs.declared.known.Truth.TheVariants.{Known, Undecided}
use Rattle.cert_checker.specs.Cases.{Extends, IsKnown, known_and, known_of, known_test, truly, falsely}
use Rattle.cert_checker.specs.Questions.{QuestionParts, Counts, test_holds}
use Rattle.cert_checker.specs.Working.Matching.{may_be, counting}
use Rattle.cert_checker.specs.Moves.{is_excluded, DoesCount}
use Rattle.cert_checker.specs.Waiting.{AreTestsSettled}
use Rattle.cert_checker.proofs.Covering.{truly_value, falsely_value}
use Rattle.cert_checker.proofs.CountedPairs.{counting_has, has_counting}

-- ---- what is known of a conjunction of two tests

one_false : (x y : Truth) → known_and x y ≡ Known false → (x ≡ Known false) ⊎ (y ≡ Known false)
one_false (Known false) y e = inl refl
one_false (Known true) (Known false) e = inr refl
one_false (Known true) (Known true) e = absurd cc
one_false (Known true) (Undecided k) e = absurd cc
one_false (Undecided k) (Known false) e = inr refl
one_false (Undecided k) (Known true) e = absurd cc
one_false (Undecided k) (Undecided l) e = absurd cc

-- ---- known values are correct

module _ (t : TableParts) (first : ℕ) (decided : List (Option Bool)) (known : List Truth) (atom : Atom) (extends : Extends decided atom) where
  -- the test of a pair has its known value
  pub test_value : (test : Option ℕ) → ((k : ℕ) → test ≡ Some k → IsKnown first decided (holds_at t k) (known_of known k)) → (b : Bool) → known_test known test ≡ Known b → test_holds t test atom ≡ b
  test_value None given b e = cc
  test_value (Some k) given b e = (subst (IsKnown first decided (holds_at t k)) e (given k refl)) atom extends

  may_be_true : (x : Truth) → may_be false x ≡ true → x ≡ Known true
  may_be_true (Known true) e = refl
  may_be_true (Known false) e = absurd cc
  may_be_true (Undecided k) e = absurd cc

  true_may_be : (also : Bool) (x : Truth) → (also ≡ true) ⊎ ((b : Bool) × (x ≡ Known b)) → (x ≡ Known false → ⊥) → may_be also x ≡ true
  true_may_be also (Known true) h never = refl
  true_may_be also (Known false) h never = absurd (never refl)
  true_may_be also (Undecided k) h never = ⊎_elim (λ e. e) (λ s. absurd cc) h

  module _ (ps : List PairParts) (given : (p : PairParts) → Has ps p → (k : ℕ) → p.test ≡ Some k → IsKnown first decided (holds_at t k) (known_of known k)) where
    pub sure_are_at : IsSubset (set_pairs_of (nodes_in t) (counting false known ps)) (pairs_at (map (tested_pair_of (nodes_in t)) ps) atom)
    sure_are_at s h =
        let m = has_map (λ (p : NumberPair). record { left = terms_of (nodes_in t) p.left; right = terms_of (nodes_in t) p.right }) (counting false known ps) s h in
        let f = counting_has false known ps m.0 m.1 in
        let holds : test_holds t f.0.test atom ≡ true = test_value f.0.test (given f.0 f.1) true (may_be_true (known_test known f.0.test) f.2) in
        let same : (tested_pair_of (nodes_in t) f.0).sets ≡ s = ap (λ (p : NumberPair). record { left = terms_of (nodes_in t) p.left; right = terms_of (nodes_in t) p.right }) f.3 ∙ m.2 in
        subst (Has (pairs_at (map (tested_pair_of (nodes_in t)) ps) atom)) same (pairs_at_has (map (tested_pair_of (nodes_in t)) ps) atom (tested_pair_of (nodes_in t) f.0) (map_has (tested_pair_of (nodes_in t)) ps f.0 f.1) holds)

    pub at_are_counted : (also : Bool) → (also ≡ true) ⊎ AreTestsSettled known ps → IsSubset (pairs_at (map (tested_pair_of (nodes_in t)) ps) atom) (set_pairs_of (nodes_in t) (counting also known ps))
    at_are_counted also settled s h =
        let k = has_pairs_at (map (tested_pair_of (nodes_in t)) ps) atom s h in
        let m = has_map (tested_pair_of (nodes_in t)) ps k.0 k.1 in
        let holds : test_holds t m.0.test atom ≡ true = ap (λ (p : TestedPair). truth p.test atom) m.2 ∙ k.2 in
        let counts = true_may_be also (known_test known m.0.test) (⊎_elim inl (λ z. inr (z m.0 m.1)) settled) (λ e. true≢false (sym holds ∙ test_value m.0.test (given m.0 m.1) false e)) in
        let same : (tested_pair_of (nodes_in t) m.0).sets ≡ s = ap (λ (p : TestedPair). p.sets) m.2 ∙ k.3 in
        subst (Has (set_pairs_of (nodes_in t) (counting also known ps))) same
        (map_has (λ (p : NumberPair). record { left = terms_of (nodes_in t) p.left; right = terms_of (nodes_in t) p.right }) (counting also known ps) (only_sets m.0) (has_counting also known ps m.0 m.1 counts))

-- known values at two atoms give what is known of the move
module _ (t : TableParts) (q : QuestionParts) (c : TestCase) (atom to : Atom) (own : (b : Bool) → known_test c.begin.items q.pair_test ≡ Known b → test_holds t q.pair_test atom ≡ b)
    (begins : (f : ℕ × ℕ) → Has q.action_pass.forbidden f → (b : Bool) → known_of c.begin.items f.0 ≡ Known b → holds_at t f.0 atom ≡ b) (ends : (f : ℕ × ℕ) → Has q.action_pass.forbidden f → (b : Bool) → known_of c.end.items f.1 ≡ Known b → holds_at t f.1 to ≡ b) where
  -- a surely excluded move does not count
  pub excluded_never : is_excluded q c ≡ true → Counts t q atom to → ⊥
  excluded_never e counts =
      ⊎_elim
      (λ l. true≢false (sym counts.pair_test ∙ own false (falsely_value (known_test c.begin.items q.pair_test) l)))
      (λ m.
      let f = has_any (λ (d : ℕ × ℕ). truly (known_of c.begin.items d.0) && truly (known_of c.end.items d.1)) q.action_pass.forbidden m in
      let parts = and_parts (truly (known_of c.begin.items f.0.0)) (truly (known_of c.end.items f.0.1)) f.2 in
      let both : (holds_at t f.0.0 atom && holds_at t f.0.1 to) ≡ true =
      and_from (holds_at t f.0.0 atom) (holds_at t f.0.1 to) (begins f.0 f.1 true (truly_value (known_of c.begin.items f.0.0) parts.0)) (ends f.0 f.1 true (truly_value (known_of c.end.items f.0.1) parts.1)) in
      true≢false (sym both ∙ counts.free f.0 f.1))
      (or_cases (falsely (known_test c.begin.items q.pair_test)) (list_any (λ (d : ℕ × ℕ). truly (known_of c.begin.items d.0) && truly (known_of c.end.items d.1)) q.action_pass.forbidden) e)

  pub counts_then : DoesCount q c → Counts t q atom to
  counts_then does = record {
    pair_test = own true does.pair_test;
    free = λ f h.
        ⊎_elim
        (λ l. ap (λ b. b && holds_at t f.1 to) (begins f h false l))
        (λ m. and_right (holds_at t f.0 atom) (holds_at t f.1 to) (ends f h false m))
        (one_false (known_of c.begin.items f.0) (known_of c.end.items f.1) (does.free f h));
  }
