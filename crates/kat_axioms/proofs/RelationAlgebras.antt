-- The relations on the states of a frame are a Kleene algebra with tests. Its tests are the decidable parts of the
-- identity, and a term denotes the relation that it denotes in the frame. So what has a chain holds in every relational
-- model, whatever its states are and whether or not its actions are decidable.
use Rattle.std.proofs.Common.{◌≡◌, ◌↔◌, ◌⊎◌, ℕ, zero as nought, suc, inl, inr, ⊎_elim, List, Bool, true, false, not, ◌&&◌, ◌||◌, slice_index_or, refl, sym, ◌∙◌, subst}
use Rattle.std.specs.Bool.{IsTrue}
use Rattle.std.proofs.lemmas.Bool.{false≢true, or_cases, or_left, or_right, and_parts, and_from, not-true, both_ways}
use Rattle.std.proofs.Math.Bool.{and_comm, or-and_distrib_left, or-not_self, and-not_self}
use Rattle.kat_model.specs.Trees.{TestTree, bottom, top, prim, complement, meet, join, Term, zero, one, test, act, sum, product, star}
use Rattle.kat_model.specs.Members.{Has}
use Rattle.kat_model.specs.Problems.{ProblemParts, IsProblem}
use Rattle.kat_model.specs.Steps.{truth}
use Rattle.kat_model.specs.Relations.{Frame, Along, RelatesIn}
use Rattle.kat_model.proofs.Closure.{along_weaken}
use Rattle.chain_rules.specs.Chains.{equation}
use Rattle.chain_rules.specs.declared.chain.Axiom.TheVariants.{Assoc, Comm, Idem, Zero, SeqAssoc, OneLeft, OneRight, ZeroLeft, ZeroRight, DistLeft, DistRight, UnfoldLeft, UnfoldRight, Lfp, Rfp}
use Rattle.chain_rules.proofs.AxiomsHold.{axiom_holds}
use Rattle.kat_axioms.specs.Algebras.{Operations, IsCongruence, IsKleeneAlgebra, IsBooleanAlgebra}
use Rattle.kat_axioms.specs.Meanings.{Interpretation, test_value, value, AreZero}
use Rattle.kat_axioms.specs.Laws.{HasChain}
use Rattle.kat_axioms.proofs.Validity.{chains_hold}

module _ {S : Type 0} (frame : Frame S) where
  abbrev pub Relation : Type 1
  Relation = S → S → Type 0

  abbrev pub AreSame : Relation → Relation → Type 0
  AreSame R P = (i j : S) → frame.IsState i → frame.IsState j → R i j ↔ P i j

  abbrev pub relations : Operations {1}
  relations = record {
    Carrier = Relation;
    Equal = AreSame;
    zero = λ i j. ⊥;
    one = λ i j. i ≡ j;
    sum = λ R P i j. R i j ⊎ P i j;
    product = λ R P i j. (k : S) × frame.IsState k × R i k × P k j;
    star = λ R i j. (ks : List S) × Along frame.IsState R i ks j;
  }

  relations_congruence : IsCongruence relations
  relations_congruence = record {
    itself = λ R i j si sj. ((λ h. h), (λ h. h));
    symmetric = λ R P p i j si sj. ((p i j si sj).1, (p i j si sj).0);
    transitive = λ R P Q p r i j si sj. ((λ h. (r i j si sj).0 ((p i j si sj).0 h)), (λ h. (p i j si sj).1 ((r i j si sj).1 h)));
    sums = λ R P Q T p r i j si sj. (
      (λ h. ⊎_elim (λ l. inl ((p i j si sj).0 l)) (λ m. inr ((r i j si sj).0 m)) h),
      (λ h. ⊎_elim (λ l. inl ((p i j si sj).1 l)) (λ m. inr ((r i j si sj).1 m)) h),
    );
    products = λ R P Q T p r i j si sj. (
      (λ h. (h.0, h.1, (p i h.0 si h.1).0 h.2, (r h.0 j h.1 sj).0 h.3)),
      (λ h. (h.0, h.1, (p i h.0 si h.1).1 h.2, (r h.0 j h.1 sj).1 h.3)),
    );
    stars = λ R P p i j si sj. (
      (λ h. (h.0, along_weaken frame.IsState R P (λ k l sk sl r. (p k l sk sl).0 r) h.0 i j si h.1)),
      (λ h. (h.0, along_weaken frame.IsState P R (λ k l sk sl r. (p k l sk sl).1 r) h.0 i j si h.1)),
    );
  }

  -- the axioms hold of relations, since they hold of actions in the frame in which these relations are actions

  abbrev three : Relation → Relation → Relation → ℕ → Relation
  three R P Q nought = R
  three R P Q (suc nought) = P
  three R P Q (suc (suc n)) = Q

  abbrev with_actions : Relation → Relation → Relation → Frame S
  with_actions R P Q = record { IsState = frame.IsState; atom = frame.atom; Acts = three R P Q }

  abbrev x : Term
  x = act 0

  abbrev y : Term
  y = act 1

  abbrev z : Term
  z = act 2

  pub relations_are_kleene : IsKleeneAlgebra relations
  relations_are_kleene = record {
    congruence = relations_congruence;
    semiring = record {
      sum_assoc = λ R P Q. axiom_holds (with_actions R P Q) Assoc x y z (equation (sum x (sum y z)) (sum (sum x y) z)) refl tt;
      sum_comm = λ R P. axiom_holds (with_actions R P R) Comm x y z (equation (sum x y) (sum y x)) refl tt;
      sum_idem = λ R. axiom_holds (with_actions R R R) Idem x y z (equation (sum x x) x) refl tt;
      sum_zero = λ R. axiom_holds (with_actions R R R) Zero x y z (equation (sum x zero) x) refl tt;
      product_assoc = λ R P Q. axiom_holds (with_actions R P Q) SeqAssoc x y z (equation (product x (product y z)) (product (product x y) z)) refl tt;
      one_left = λ R. axiom_holds (with_actions R R R) OneLeft x y z (equation (product one x) x) refl tt;
      one_right = λ R. axiom_holds (with_actions R R R) OneRight x y z (equation (product x one) x) refl tt;
      zero_left = λ R. axiom_holds (with_actions R R R) ZeroLeft x y z (equation (product zero x) zero) refl tt;
      zero_right = λ R. axiom_holds (with_actions R R R) ZeroRight x y z (equation (product x zero) zero) refl tt;
      dist_left = λ R P Q. axiom_holds (with_actions R P Q) DistLeft x y z (equation (product x (sum y z)) (sum (product x y) (product x z))) refl tt;
      dist_right = λ R P Q. axiom_holds (with_actions R P Q) DistRight x y z (equation (product (sum x y) z) (sum (product x z) (product y z))) refl tt;
    };
    unfold_left = λ R. axiom_holds (with_actions R R R) UnfoldLeft x y z (equation (star x) (sum one (product x (star x)))) refl tt;
    unfold_right = λ R. axiom_holds (with_actions R R R) UnfoldRight x y z (equation (star x) (sum one (product (star x) x))) refl tt;
    least_left = λ R P Q h. axiom_holds (with_actions R P Q) Lfp x y z (equation (sum (product (star x) y) z) z) refl h;
    least_right = λ R P Q h. axiom_holds (with_actions R P Q) Rfp x y z (equation (sum (product y (star x)) z) z) refl h;
  }

  -- ---- tests

  -- the relation relates each state that passes to itself, and nothing else
  abbrev pub Tests : (S → Bool) → Relation → Type 0
  Tests p R = AreSame R (λ i j. (i ≡ j) × IsTrue (p i))

  abbrev pub IsTest : Relation → Type 0
  IsTest R = (p : S → Bool) × Tests p R

  abbrev pub complement_of : Relation → Relation
  complement_of R i j = (i ≡ j) × (R i i → ⊥)

  zero_tests : Tests (λ i. false) (λ i j. ⊥)
  zero_tests i j si sj = ((λ h. absurd h), (λ h. absurd (false≢true h.1)))

  one_tests : Tests (λ i. true) (λ i j. i ≡ j)
  one_tests i j si sj = ((λ h. (h, refl)), (λ h. h.0))

  sum_tests : (p r : S → Bool) (R P : Relation) → Tests p R → Tests r P → Tests (λ i. p i || r i) (relations.sum R P)
  sum_tests p r R P t u i j si sj = (
    (λ h. ⊎_elim (λ l. let a = (t i j si sj).0 l in (a.0, or_left (p i) (r i) a.1)) (λ m. let a = (u i j si sj).0 m in (a.0, or_right (p i) (r i) a.1)) h),
    (λ h. ⊎_elim (λ l. inl ((t i j si sj).1 (h.0, l))) (λ m. inr ((u i j si sj).1 (h.0, m))) (or_cases (p i) (r i) h.1)),
  )

  product_tests : (p r : S → Bool) (R P : Relation) → Tests p R → Tests r P → Tests (λ i. p i && r i) (relations.product R P)
  product_tests p r R P t u i j si sj = (
    (λ h.
        let a = (t i h.0 si h.1).0 h.2 in
        let b = (u h.0 j h.1 sj).0 h.3 in
        (a.0 ∙ b.0, and_from (p i) (r i) a.1 (subst (λ k. IsTrue (r k)) (sym a.0) b.1))),
    (λ h.
        let both = and_parts (p i) (r i) h.1 in
        (i, si, (t i i si si).1 (refl, both.0), (u i j si sj).1 (h.0, both.1))),
  )

  complement_tests : (p : S → Bool) (R : Relation) → Tests p R → Tests (λ i. not (p i)) (complement_of R)
  complement_tests p R t i j si sj = (
    (λ h. (h.0, fails (p i) (λ e. h.1 ((t i i si si).1 (refl, e))))),
    (λ h. (h.0, (λ r. both_ways (p i) (not-true (p i) h.1) ((t i i si si).0 r).1))),
  )
    where
      fails : (b : Bool) → (b ≡ true → ⊥) → not b ≡ true
      fails true none = absurd (none refl)
      fails false none = refl

  -- tests that the same states pass are the same
  tests_same : (p r : S → Bool) (R P : Relation) → Tests p R → Tests r P → ((i : S) → p i ≡ r i) → AreSame R P
  tests_same p r R P t u same i j si sj = (
    (λ h. let a = (t i j si sj).0 h in (u i j si sj).1 (a.0, sym (same i) ∙ a.1)),
    (λ h. let a = (u i j si sj).0 h in (t i j si sj).1 (a.0, same i ∙ a.1)),
  )

  pub relations_are_boolean : IsBooleanAlgebra relations IsTest complement_of
  relations_are_boolean = record {
    zero_is_test = ((λ i. false), zero_tests);
    one_is_test = ((λ i. true), one_tests);
    sum_is_test = λ R P t u. ((λ i. t.0 i || u.0 i), sum_tests t.0 u.0 R P t.1 u.1);
    product_is_test = λ R P t u. ((λ i. t.0 i && u.0 i), product_tests t.0 u.0 R P t.1 u.1);
    complement_is_test = λ R t. ((λ i. not (t.0 i)), complement_tests t.0 R t.1);
    product_comm = λ R P t u. tests_same _ _ _ _ (product_tests t.0 u.0 R P t.1 u.1) (product_tests u.0 t.0 P R u.1 t.1) (λ i. and_comm (t.0 i) (u.0 i));
    sum_dist = λ R P Q t u w.
        tests_same _ _ _ _ (sum_tests t.0 _ R _ t.1 (product_tests u.0 w.0 P Q u.1 w.1))
        (product_tests _ _ _ _ (sum_tests t.0 u.0 R P t.1 u.1) (sum_tests t.0 w.0 R Q t.1 w.1)) (λ i. or-and_distrib_left (t.0 i) (u.0 i) (w.0 i));
    sum_complement = λ R t. tests_same _ _ _ _ (sum_tests t.0 _ R _ t.1 (complement_tests t.0 R t.1)) one_tests (λ i. or-not_self (t.0 i));
    product_complement = λ R t. tests_same _ _ _ _ (product_tests t.0 _ R _ t.1 (complement_tests t.0 R t.1)) zero_tests (λ i. and-not_self (t.0 i));
  }

  -- ---- the frame as an interpretation

  pub prim_tests : (k : ℕ) → Tests (λ i. slice_index_or (frame.atom i) k false) (λ i j. (i ≡ j) × IsTrue (slice_index_or (frame.atom i) k false))
  prim_tests k i j si sj = ((λ h. h), (λ h. h))

  abbrev pub frame_interpretation : Interpretation {1}
  frame_interpretation = record {
    algebra = record { kleene = record { operations = relations; laws = relations_are_kleene }; IsTest = IsTest; complement = complement_of; boolean = relations_are_boolean };
    actions = λ a. frame.Acts a;
    tests = λ k i j. (i ≡ j) × IsTrue (slice_index_or (frame.atom i) k false);
    are_tests = λ k. ((λ i. slice_index_or (frame.atom i) k false), prim_tests k);
  }

  test_value_tests : (b : TestTree) → Tests (λ i. truth b (frame.atom i)) (test_value frame_interpretation b)
  test_value_tests bottom = zero_tests
  test_value_tests top = one_tests
  test_value_tests (prim k) = prim_tests k
  test_value_tests (complement b) = complement_tests _ _ (test_value_tests b)
  test_value_tests (meet b c) = product_tests _ _ _ _ (test_value_tests b) (test_value_tests c)
  test_value_tests (join b c) = sum_tests _ _ _ _ (test_value_tests b) (test_value_tests c)

  -- a term denotes its relation
  pub value_relates : (e : Term) → AreSame (value frame_interpretation e) (RelatesIn frame e)
  value_relates zero = relations_congruence.itself _
  value_relates one = relations_congruence.itself _
  value_relates (test b) = test_value_tests b
  value_relates (act a) = relations_congruence.itself _
  value_relates (sum e f) = relations_congruence.sums _ _ _ _ (value_relates e) (value_relates f)
  value_relates (product e f) = relations_congruence.products _ _ _ _ (value_relates e) (value_relates f)
  value_relates (star e) = relations_congruence.stars _ _ (value_relates e)

  -- what has a chain holds in every frame in which no hypothesis relates any state to any state
  pub chains_relate : (q : ProblemParts) → IsProblem q → HasChain q
      → ((h : Term) → Has q.hyps h → (i j : S) → frame.IsState i → frame.IsState j → RelatesIn frame h i j → ⊥)
      → AreSame (RelatesIn frame q.left) (RelatesIn frame q.right)
  chains_relate q is chain none =
      relations_congruence.transitive _ _ _ (relations_congruence.symmetric _ _ (value_relates q.left))
      (relations_congruence.transitive _ _ _ (chains_hold frame_interpretation q is chain zeros) (value_relates q.right))
    where
      zeros : AreZero frame_interpretation q.hyps
      zeros h has i j si sj = ((λ v. none h has i j si sj ((value_relates h i j si sj).0 v)), (λ n. absurd n))
