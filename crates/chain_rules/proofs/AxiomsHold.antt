-- Each axiom holds in every frame; the two fixed-point axioms hold if their premise does.
use Rattle.std.proofs.Common.{◌≡◌, ℕ, inl, inr, ⊎_elim, List, [], ◌∷◌, ◌++◌, length, Option, Some, refl, sym, subst, MatchOption}
use Rattle.kat_model.specs.Trees.{Term, zero, one, sum, product, star}
use Rattle.kat_model.specs.Relations.{Frame, Along, RelatesIn}
use Rattle.kat_model.proofs.Closure.{along_append}
use Rattle.goal_forms.proofs.StepForms.{test_relates, test_related}
use Rattle.chain_rules.specs.Chains.{Equation, equation}
use Rattle.chain_rules.specs.Axioms.{axiom_equation, axiom_premise, AreEqualTests}
use Rattle.chain_rules.specs.declared.chain.Axiom.{Axiom}
use Rattle.chain_rules.specs.declared.chain.Axiom.TheVariants.{Assoc, Comm, Idem, Zero, SeqAssoc, OneLeft, OneRight, ZeroLeft, ZeroRight, DistLeft, DistRight, UnfoldLeft, UnfoldRight, Bool, Hyp, Lfp, Rfp}
use Rattle.chain_rules.proofs.Agreement.{Agree}

module _ {S : Type 0} (frame : Frame S) where
  assoc : (x y z : Term) → Agree frame (sum x (sum y z)) (sum (sum x y) z)
  assoc x y z i j si sj = (
    (λ h. ⊎_elim (λ p. inl (inl p)) (λ q. ⊎_elim (λ r. inl (inr r)) (λ r. inr r) q) h),
    (λ h. ⊎_elim (λ p. ⊎_elim (λ r. inl r) (λ r. inr (inl r)) p) (λ q. inr (inr q)) h),
  )

  comm : (x y : Term) → Agree frame (sum x y) (sum y x)
  comm x y i j si sj = ((λ h. ⊎_elim (λ p. inr p) (λ q. inl q) h), (λ h. ⊎_elim (λ p. inr p) (λ q. inl q) h))

  idem : (x : Term) → Agree frame (sum x x) x
  idem x i j si sj = ((λ h. ⊎_elim (λ p. p) (λ q. q) h), (λ h. inl h))

  sum_zero : (x : Term) → Agree frame (sum x zero) x
  sum_zero x i j si sj = ((λ h. ⊎_elim (λ p. p) (λ q. absurd q) h), (λ h. inl h))

  product_assoc : (x y z : Term) → Agree frame (product x (product y z)) (product (product x y) z)
  product_assoc x y z i j si sj = (
    (λ h. (h.3.0, h.3.1, (h.0, h.1, h.2, h.3.2), h.3.3)),
    (λ h. (h.2.0, h.2.1, h.2.2, (h.0, h.1, h.2.3, h.3))),
  )

  one_left : (x : Term) → Agree frame (product one x) x
  one_left x i j si sj = ((λ h. subst (λ k. RelatesIn frame x k j) (sym h.2) h.3), (λ h. (i, si, refl, h)))

  one_right : (x : Term) → Agree frame (product x one) x
  one_right x i j si sj = ((λ h. subst (λ k. RelatesIn frame x i k) h.3 h.2), (λ h. (j, sj, h, refl)))

  zero_left : (x : Term) → Agree frame (product zero x) zero
  zero_left x i j si sj = ((λ h. h.2), (λ h. absurd h))

  zero_right : (x : Term) → Agree frame (product x zero) zero
  zero_right x i j si sj = ((λ h. h.3), (λ h. absurd h))

  dist_left : (x y z : Term) → Agree frame (product x (sum y z)) (sum (product x y) (product x z))
  dist_left x y z i j si sj = (
    (λ h. ⊎_elim (λ p. inl (h.0, h.1, h.2, p)) (λ q. inr (h.0, h.1, h.2, q)) h.3),
    (λ h. ⊎_elim (λ p. (p.0, p.1, p.2, inl p.3)) (λ q. (q.0, q.1, q.2, inr q.3)) h),
  )

  dist_right : (x y z : Term) → Agree frame (product (sum x y) z) (sum (product x z) (product y z))
  dist_right x y z i j si sj = (
    (λ h. ⊎_elim (λ p. inl (h.0, h.1, p, h.3)) (λ q. inr (h.0, h.1, q, h.3)) h.2),
    (λ h. ⊎_elim (λ p. (p.0, p.1, inl p.2, p.3)) (λ q. (q.0, q.1, inr q.2, q.3)) h),
  )

  -- splitting off the first step along a list of states, and the last step
  first_step : (x : Term) (ks : List S) (i j : S) → Along frame.IsState (RelatesIn frame x) i ks j → RelatesIn frame (sum one (product x (star x))) i j
  first_step x [] i j h = inl h
  first_step x (k ∷ ks) i j h = inr (k, h.0, h.1, (ks, h.2))

  last_step : (x : Term) (ks : List S) (i j : S) → frame.IsState i → Along frame.IsState (RelatesIn frame x) i ks j → RelatesIn frame (sum one (product (star x) x)) i j
  last_step x [] i j si h = inl h
  last_step x (k ∷ ks) i j si h =
      ⊎_elim
      (λ e. inr (i, si, ([], refl), subst (λ m. RelatesIn frame x i m) e h.1))
      (λ r. inr (r.0, r.1, (k ∷ r.2.0, (h.0, h.1, r.2.1)), r.3))
      (last_step x ks k j h.0 h.2)

  unfold_left : (x : Term) → Agree frame (star x) (sum one (product x (star x)))
  unfold_left x i j si sj = (
    (λ h. first_step x h.0 i j h.1),
    (λ h. ⊎_elim (λ e. ([], e)) (λ r. (r.0 ∷ r.3.0, (r.1, r.2, r.3.1))) h),
  )

  unfold_right : (x : Term) → Agree frame (star x) (sum one (product (star x) x))
  unfold_right x i j si sj = (
    (λ h. last_step x h.0 i j si h.1),
    (λ h.
        ⊎_elim
        (λ e. ([], e))
        (λ r. (r.2.0 ++ j ∷ [], along_append frame.IsState (RelatesIn frame x) r.2.0 (j ∷ []) i r.0 j r.2.1 (sj, r.3, refl)))
        h),
  )

  -- if r includes q and p followed by r, it includes any number of steps by p followed by q
  least_left : (p q r : Term) → Agree frame (sum (sum q (product p r)) r) r → (ks : List S) (i k j : S) → frame.IsState i → frame.IsState j → Along frame.IsState (RelatesIn frame p) i ks k → RelatesIn frame q k j → RelatesIn frame r i j
  least_left p q r a [] i k j si sj h g = (a i j si sj).0 (inl (inl (subst (λ m. RelatesIn frame q m j) (sym h) g)))
  least_left p q r a (m ∷ ks) i k j si sj h g =
      (a i j si sj).0 (inl (inr (m, h.0, h.1, least_left p q r a ks m k j h.0 sj h.2 g)))

  lfp : (p q r : Term) → Agree frame (sum (sum q (product p r)) r) r → Agree frame (sum (product (star p) q) r) r
  lfp p q r a i j si sj = (
    (λ h. ⊎_elim (λ l. least_left p q r a l.2.0 i l.0 j si sj l.2.1 l.3) (λ g. g) h),
    (λ h. inr h),
  )

  -- the same with p after r
  least_right : (p q r : Term) → Agree frame (sum (sum q (product r p)) r) r → (ks : List S) (i k j : S) → frame.IsState i → frame.IsState k → RelatesIn frame r i k → Along frame.IsState (RelatesIn frame p) k ks j → RelatesIn frame r i j
  least_right p q r a [] i k j si sk g h = subst (λ m. RelatesIn frame r i m) h g
  least_right p q r a (m ∷ ks) i k j si sk g h =
      least_right p q r a ks i m j si h.0 ((a i m si h.0).0 (inl (inr (k, sk, g, h.1)))) h.2

  rfp : (p q r : Term) → Agree frame (sum (sum q (product r p)) r) r → Agree frame (sum (product q (star p)) r) r
  rfp p q r a i j si sj = (
    (λ h. ⊎_elim (λ l. least_right p q r a l.3.0 i l.0 j si l.1 ((a i l.0 si l.1).0 (inl (inl l.2))) l.3.1) (λ g. g) h),
    (λ h. inr h),
  )

  -- the premise holds if there is one
  abbrev pub PremiseHolds : Option Equation → Type 0
  PremiseHolds premise = MatchOption premise (Unit {0}) (λ s. Agree frame s.left s.right)

  of_sides : (l r : Term) (s : Equation) → Some (equation l r) ≡ Some s → Agree frame l r → Agree frame s.left s.right
  of_sides l r s e a =
      let p : equation l r ≡ s = cc in
      subst (λ (u : Equation). Agree frame u.left u.right) p a

  pub axiom_holds : (rule : Axiom) (x y z : Term) (s : Equation) → axiom_equation rule x y z ≡ Some s → PremiseHolds (axiom_premise rule x y z) → Agree frame s.left s.right
  axiom_holds Assoc x y z s e p = of_sides _ _ s e (assoc x y z)
  axiom_holds Comm x y z s e p = of_sides _ _ s e (comm x y)
  axiom_holds Idem x y z s e p = of_sides _ _ s e (idem x)
  axiom_holds Zero x y z s e p = of_sides _ _ s e (sum_zero x)
  axiom_holds SeqAssoc x y z s e p = of_sides _ _ s e (product_assoc x y z)
  axiom_holds OneLeft x y z s e p = of_sides _ _ s e (one_left x)
  axiom_holds OneRight x y z s e p = of_sides _ _ s e (one_right x)
  axiom_holds ZeroLeft x y z s e p = of_sides _ _ s e (zero_left x)
  axiom_holds ZeroRight x y z s e p = of_sides _ _ s e (zero_right x)
  axiom_holds DistLeft x y z s e p = of_sides _ _ s e (dist_left x y z)
  axiom_holds DistRight x y z s e p = of_sides _ _ s e (dist_right x y z)
  axiom_holds UnfoldLeft x y z s e p = of_sides _ _ s e (unfold_left x)
  axiom_holds UnfoldRight x y z s e p = of_sides _ _ s e (unfold_right x)
  axiom_holds Lfp x y z s e p = of_sides _ _ s e (lfp x y z p)
  axiom_holds Rfp x y z s e p = of_sides _ _ s e (rfp x y z p)
  axiom_holds Bool x y z s e p = absurd cc
  axiom_holds (Hyp k) x y z s e p = absurd cc

  test_passes : (tests : ℕ) → ((i : S) → frame.IsState i → length (frame.atom i) ≡ tests) → (e f : Term) → AreEqualTests tests (equation e f) → (i j : S) → frame.IsState i → RelatesIn frame e i j → RelatesIn frame f i j
  test_passes tests wide e f t i j si h =
      let p = test_related frame e i j t.left h in
      subst (λ k. RelatesIn frame f i k) p.0 (test_relates frame f i si t.right (rw (t.same (frame.atom i) (wide i si)) at p.1))

  pub equal_tests_agree : (tests : ℕ) → ((i : S) → frame.IsState i → length (frame.atom i) ≡ tests) → (s : Equation) → AreEqualTests tests s → Agree frame s.left s.right
  equal_tests_agree tests wide s t i j si sj =
      let converse : AreEqualTests tests (equation s.right s.left) =
      record { left = t.right; right = t.left; same = λ atom w. sym (t.same atom w) } in
      (test_passes tests wide s.left s.right t i j si, test_passes tests wide s.right s.left converse i j si)
