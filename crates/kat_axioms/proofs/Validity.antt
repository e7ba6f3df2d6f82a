-- Derivable equations hold in every Kleene algebra with tests in which the hypotheses are 0.
use Rattle.std.proofs.Common.{◌≡◌, ◌≤◌, ℕ, inl, inr, ⊎_elim, List, [], ◌∷◌, Option, None, Some, Bool, true, false, cond, refl, sym, ap, subst}
use Rattle.std.proofs.Math.Dec.{ltb}
use Rattle.std.proofs.lemmas.Bool.{lt-ltb, le-ltb}
use mathlib.Core.Path.{ap₂}
use Rattle.kat_model.specs.Trees.{TestTree, bottom, top, prim, complement, meet, join, Term, zero, one, test, act, sum, product, star}
use Rattle.kat_model.specs.Problems.{ProblemParts, IsTestInRange, IsInRange, AreInRange}
use Rattle.kat_model.proofs.Places.{has_at}
use Rattle.chain_rules.specs.Chains.{Equation, equation}
use Rattle.chain_rules.specs.Axioms.{axiom_equation, axiom_premise, IsInstance}
use Rattle.chain_rules.specs.declared.chain.Axiom.{Axiom}
use Rattle.chain_rules.specs.declared.chain.Axiom.TheVariants.{Assoc, Comm, Idem, Zero, SeqAssoc, OneLeft, OneRight, ZeroLeft, ZeroRight, DistLeft, DistRight, UnfoldLeft, UnfoldRight, Bool as ByBool, Hyp, Lfp, Rfp}
use Rattle.kat_axioms.specs.Meanings.{Interpretation, test_value, value, AreZero, HoldsIn}
use Rattle.kat_axioms.specs.Derivations.{Proves, itself, symmetric, transitive, sums, products, stars, axiom_without, axiom_with}
use Rattle.kat_axioms.specs.Laws.{ChainsHoldIn}
use Rattle.kat_axioms.proofs.BooleanValues.{test_values_equal}
use Rattle.kat_axioms.proofs.Chains.{has_chain_proves}

module _ {ℓ} (I : Interpretation {ℓ}) where
  module _ (q : ProblemParts) (beyond : (k : ℕ) → q.tests ≤ k → I.Equal (I.tests k) I.zero) (zeros : AreZero I q.hyps) where
    -- the terms denote equal elements
    abbrev AreEqual : Term → Term → Type 0
    AreEqual e f = I.Equal (value I e) (value I f)

    abbrev PremiseHolds : Option Equation → Type 0
    PremiseHolds None = Unit {0}
    PremiseHolds (Some s) = AreEqual s.left s.right

    of_sides : (l r : Term) (s : Equation) → Some (equation l r) ≡ Some s → AreEqual l r → AreEqual s.left s.right
    of_sides l r s e a =
        let p : equation l r ≡ s = cc in
        subst (λ (u : Equation). AreEqual u.left u.right) p a

    axiom_valid : (rule : Axiom) (x y z : Term) (s : Equation) → axiom_equation rule x y z ≡ Some s → PremiseHolds (axiom_premise rule x y z) → AreEqual s.left s.right
    axiom_valid Assoc x y z s e p = of_sides _ _ s e (I.laws.semiring.sum_assoc _ _ _)
    axiom_valid Comm x y z s e p = of_sides _ _ s e (I.laws.semiring.sum_comm _ _)
    axiom_valid Idem x y z s e p = of_sides _ _ s e (I.laws.semiring.sum_idem _)
    axiom_valid Zero x y z s e p = of_sides _ _ s e (I.laws.semiring.sum_zero _)
    axiom_valid SeqAssoc x y z s e p = of_sides _ _ s e (I.laws.semiring.product_assoc _ _ _)
    axiom_valid OneLeft x y z s e p = of_sides _ _ s e (I.laws.semiring.one_left _)
    axiom_valid OneRight x y z s e p = of_sides _ _ s e (I.laws.semiring.one_right _)
    axiom_valid ZeroLeft x y z s e p = of_sides _ _ s e (I.laws.semiring.zero_left _)
    axiom_valid ZeroRight x y z s e p = of_sides _ _ s e (I.laws.semiring.zero_right _)
    axiom_valid DistLeft x y z s e p = of_sides _ _ s e (I.laws.semiring.dist_left _ _ _)
    axiom_valid DistRight x y z s e p = of_sides _ _ s e (I.laws.semiring.dist_right _ _ _)
    axiom_valid UnfoldLeft x y z s e p = of_sides _ _ s e (I.laws.unfold_left _)
    axiom_valid UnfoldRight x y z s e p = of_sides _ _ s e (I.laws.unfold_right _)
    axiom_valid Lfp x y z s e p = of_sides _ _ s e (I.laws.least_left _ _ _ p)
    axiom_valid Rfp x y z s e p = of_sides _ _ s e (I.laws.least_right _ _ _ p)
    axiom_valid ByBool x y z s e p = absurd cc
    axiom_valid (Hyp k) x y z s e p = absurd cc

    instance_valid : (rule : Axiom) (inner : Option Equation) (s : Equation) → IsInstance q rule inner s → PremiseHolds inner → AreEqual s.left s.right
    instance_valid ByBool inner s h p = test_values_equal I q.tests beyond s.left s.right h.1.left h.1.right h.1.same
    instance_valid (Hyp k) inner s h p =
        subst (λ e. I.Equal (value I s.left) (value I e)) (sym h.2) (zeros s.left (has_at q.hyps k s.left h.1))
    instance_valid rule inner s h p = axiom_valid rule h.x h.y h.z s h.sides (subst (λ (o : Option Equation). PremiseHolds o) (sym h.premise) p)

    proves_valid : {e f : Term} → Proves q e f → AreEqual e f
    proves_valid (itself e) = I.laws.congruence.itself _
    proves_valid (symmetric p) = I.laws.congruence.symmetric _ _ (proves_valid p)
    proves_valid (transitive p r) = I.laws.congruence.transitive _ _ _ (proves_valid p) (proves_valid r)
    proves_valid (sums p r) = I.laws.congruence.sums _ _ _ _ (proves_valid p) (proves_valid r)
    proves_valid (products p r) = I.laws.congruence.products _ _ _ _ (proves_valid p) (proves_valid r)
    proves_valid (stars p) = I.laws.congruence.stars _ _ (proves_valid p)
    proves_valid (axiom_without rule s h) = instance_valid rule None s h tt
    proves_valid (axiom_with rule premise s h p) = instance_valid rule (Some premise) s h (proves_valid p)

-- ---- interpretations that differ only in tests out of range

module _ {ℓ} (I : Interpretation {ℓ}) (tests actions : ℕ) where
  zero_or_test : (k : ℕ) (b : Bool) → I.IsTest (cond b (I.tests k) I.zero)
  zero_or_test k true = I.are_tests k
  zero_or_test k false = I.boolean.zero_is_test

  -- the interpretation with 0 for the tests out of range
  abbrev cut_off : Interpretation {ℓ}
  cut_off = record {
    algebra = I.algebra;
    actions = I.actions;
    tests = λ k. cond (ltb k tests) (I.tests k) I.zero;
    are_tests = λ k. zero_or_test k (ltb k tests);
  }

  test_value-cut_off : (b : TestTree) → IsTestInRange tests b → test_value cut_off b ≡ test_value I b
  test_value-cut_off bottom r = refl
  test_value-cut_off top r = refl
  test_value-cut_off (prim k) r = ap (λ b. cond b (I.tests k) I.zero) (lt-ltb k tests r)
  test_value-cut_off (complement b) r = ap I.complement (test_value-cut_off b r)
  test_value-cut_off (meet b c) r = ap₂ I.product (test_value-cut_off b r.0) (test_value-cut_off c r.1)
  test_value-cut_off (join b c) r = ap₂ I.sum (test_value-cut_off b r.0) (test_value-cut_off c r.1)

  value-cut_off : (e : Term) → IsInRange tests actions e → value cut_off e ≡ value I e
  value-cut_off zero r = refl
  value-cut_off one r = refl
  value-cut_off (test b) r = test_value-cut_off b r
  value-cut_off (act a) r = refl
  value-cut_off (sum e f) r = ap₂ I.sum (value-cut_off e r.0) (value-cut_off f r.1)
  value-cut_off (product e f) r = ap₂ I.product (value-cut_off e r.0) (value-cut_off f r.1)
  value-cut_off (star e) r = ap I.star (value-cut_off e r)

  zeros-cut_off : (es : List Term) → AreInRange tests actions es → AreZero I es → AreZero cut_off es
  zeros-cut_off [] r zeros e h = absurd h
  zeros-cut_off (f ∷ es) r zeros e h =
      ⊎_elim
      (λ s. subst (λ x. I.Equal (value cut_off x) I.zero) s (subst (λ x. I.Equal x I.zero) (sym (value-cut_off f r.0)) (zeros f (inl refl))))
      (zeros-cut_off es r.1 (λ x k. zeros x (inr k)) e)
      h

  beyond-cut_off : (k : ℕ) → tests ≤ k → I.Equal (cut_off.tests k) I.zero
  beyond-cut_off k le = subst (λ b. I.Equal (cond b (I.tests k) I.zero) I.zero) (sym (le-ltb k tests le)) (I.laws.congruence.itself I.zero)

-- what has a chain holds under every interpretation by which the hypotheses are 0
pub chains_hold {ℓ} : (I : Interpretation {ℓ}) → ChainsHoldIn I
chains_hold I q is h zeros =
    let J = cut_off I q.tests q.actions in
    let equal : HoldsIn J q = proves_valid J q (beyond-cut_off I q.tests q.actions) (zeros-cut_off I q.tests q.actions q.hyps is.hyps zeros) (has_chain_proves q h) in
    subst (λ x. I.Equal x (value I q.right)) (value-cut_off I q.tests q.actions q.left is.left)
    (subst (λ x. I.Equal (value J q.left) x) (value-cut_off I q.tests q.actions q.right is.right) equal)
