-- The first place of several turns is the earlier of two first places.
use Rattle.std.proofs.Common.{◌≡◌, ℕ, suc, ◌<◌, ◌⊎◌, inl, inr, ⊎_elim, [], ◌∷◌, refl, sym, ◌∙◌, subst, arith, Option, Some, None}
use Rattle.std.specs.Option.{option_map}
use Rattle.kat_model.specs.Problems.{ProblemParts}
use Rattle.kat_model.specs.Steps.{Atom}
use Rattle.certificate.specs.declared.nodes.Style.{Style}
use Rattle.certificate.specs.declared.nodes.Style.TheVariants.{Plain, UpTo, Under}
use Rattle.certificate.specs.Certs.{CertParts}
use Rattle.cert_checker.specs.declared.answer.Reason.{Reason}
use Rattle.cert_checker.specs.declared.answer.Reason.TheVariants.{FirstPair, Output, Missing, MissingTo, Shape, HypBroken, EndsAgree, TestNode, TermNode}
use Rattle.cert_checker.specs.declared.places.Place.{Place}
use Rattle.cert_checker.specs.Answers.{Turn, turn_of, IsEarlier, FailsBy}
use Rattle.cert_checker.specs.AtomOrder.{IsLess}
use Rattle.cert_checker.specs.Working.Places.{IsAmong, IsFirstOf, IsLeastOf, Passes, reason_at, place_reason, turn_at, turn_number}
use Rattle.cert_checker.proofs.LeastFailures.{less_trans}
use Rattle.cert_checker.proofs.OneAnswer.{turns_total, same_length, to_length}
use Rattle.cert_checker.proofs.PairPlaces.{place_turn}

-- the lexicographic order: less in the first part, or equal there and less in the rest
less_parts : {A B C E F G R S T : Type 0} → A ⊎ (E × R) → B ⊎ (F × S) → (A → B → C) → (A → F → C) → (E → B → C) → (E → F → G) → (R → S → T) → C ⊎ (G × T)
less_parts x y both first second same rest =
    ⊎_elim
    (λ a. ⊎_elim (λ b. inl (both a b)) (λ b. inl (first a b.0)) y)
    (λ a. ⊎_elim (λ b. inl (second a.0 b)) (λ b. inr (same a.0 b.0, rest a.1 b.1)) y)
    x

earlier_trans : (s t u : Turn) → IsEarlier s t → IsEarlier t u → IsEarlier s u
earlier_trans s t u h k =
    less_parts h k (λ a b. omega (arith, a, b)) (λ a b. omega (arith, a, b)) (λ a b. omega (arith, a, b)) (λ a b. a ∙ b)
    (λ x y. less_parts x y (λ a b. omega (arith, a, b)) (λ a b. omega (arith, a, b)) (λ a b. omega (arith, a, b)) (λ a b. a ∙ b)
    (λ x y. less_parts x y (λ a b. less_trans s.atom t.atom u.atom a b) (λ a b. subst (IsLess s.atom) b a) (λ a b. subst (λ z. IsLess z u.atom) (sym a) b) (λ a b. a ∙ b)
    (λ x y. less_parts x y (λ a b. omega (arith, a, b)) (λ a b. omega (arith, a, b)) (λ a b. omega (arith, a, b)) (λ a b. a ∙ b)
    (λ x y. less_trans s.to t.to u.to x y))))

-- ---- the order of places is that of their reasons

never_less : (xs : Atom) → IsLess xs [] → ⊥
never_less [] h = h
never_less (x ∷ xs) h = h

to_less : (s : Style) (k l : ℕ) (a b : Atom) (o p : Option ℕ) (to up : Atom) → IsLess (turn_of (reason_at s k a o to)).to (turn_of (reason_at s l b p up)).to → IsLess to up
to_less Plain k l a b None p to up h = absurd h
to_less UpTo k l a b None p to up h = absurd h
to_less Under k l a b None p to up h = absurd h
to_less Plain k l a b (Some c) p to up h = absurd h
to_less UpTo k l a b (Some c) p to up h = absurd h
to_less Under k l a b (Some c) None to up h = absurd (never_less to h)
to_less Under k l a b (Some c) (Some d) to up h = h

reasons_ordered : (s : Style) (k l : ℕ) (a b : Atom) (o p : Option ℕ) (to up : Atom) → IsEarlier (turn_of (reason_at s k a o to)) (turn_of (reason_at s l b p up))
    → IsEarlier (record { stage = 3; number = k; atom = a; action = turn_number o; to = to }) (record { stage = 3; number = l; atom = b; action = turn_number p; to = up })
reasons_ordered s k l a b o p to up h =
    let f = place_turn s k a o to in
    let g = place_turn s l b p up in
    ⊎_elim
    (λ e. absurd (omega (arith, e, f.0, g.0)))
    (λ x. inr (
      refl,
      ⊎_elim (λ e. inl (omega (arith, e, f.1, g.1)))
          (λ y. inr (
            sym f.1 ∙ y.0 ∙ g.1,
            ⊎_elim (λ e. inl (subst (IsLess a) g.2 (subst (λ z. IsLess z (turn_of (reason_at s l b p up)).atom) f.2 e)))
                (λ z. inr (
                  sym f.2 ∙ z.0 ∙ g.2,
                  ⊎_elim (λ e. inl (omega (arith, e, f.3, g.3))) (λ w. inr (sym f.3 ∙ w.0 ∙ g.3, to_less s k l a b o p to up w.1)) z.1,
                ))
                y.1,
          ))
          x.1,
    ))
    h

-- a place with the earlier reason is the earlier place
place_earlier : (s : Style) (x y : Place) → IsEarlier (turn_of (place_reason s x)) (turn_of (place_reason s y)) → IsEarlier (turn_at x) (turn_at y)
place_earlier s x y h = reasons_ordered s x.pair y.pair x.atom.items y.atom.items x.action y.action x.to.items y.to.items h

module _ (q : ProblemParts) (c : CertParts) where
  -- for reasons `x` and `s` by which the certificate fails: if `s` does not precede `x`, and `x` does not precede `y`,
  -- then `s` does not precede `y`
  not_before : (x y s : Reason) → FailsBy q c x → FailsBy q c s → (IsEarlier (turn_of s) (turn_of x) → ⊥) → (IsEarlier (turn_of x) (turn_of y) → ⊥) → IsEarlier (turn_of s) (turn_of y) → ⊥
  not_before x y s fx fs not never h =
      ⊎_elim not
      (λ k. ⊎_elim (λ e. never (subst (λ z. IsEarlier z (turn_of y)) e h)) (λ l. never (earlier_trans (turn_of x) (turn_of s) (turn_of y) l h)) k)
      (turns_total (turn_of s) (turn_of x) (same_length q c s x fs fx) (to_length q c s x fs fx))

  passes_not : (s : Reason) → (turn_of s).stage ≡ 3 → Passes q c s → FailsBy q c s → ⊥
  passes_not (Output k atom) e h f = f.3 (h f.0 f.1 f.2)
  passes_not (Missing k atom a) e h f = f.4 (h f.0 f.1 f.2 f.3)
  passes_not (MissingTo k atom a to) e h f = f.5 (h f.0 f.1 f.2 f.3 f.4)
  passes_not (TestNode k) e h f = absurd (omega (arith, e))
  passes_not (TermNode k) e h f = absurd (omega (arith, e))
  passes_not FirstPair e h f = absurd (omega (arith, e))
  passes_not (Shape k) e h f = f
  passes_not (HypBroken g i j) e h f = f
  passes_not EndsAgree e h f = f

  module _ (style : Style) (m : ℕ) where
    low_or_last : (s : Reason) → IsAmong (λ n. n < suc m) s → IsAmong (λ n. n < m) s ⊎ IsAmong (λ n. n ≡ m) s
    low_or_last s a = ⊎_elim (λ l. inl (a.0, l)) (λ r. inr (a.0, r)) (cases (turn_of s).action a.1)
      where
        cases : (k : ℕ) → k < suc m → (k < m) ⊎ (k ≡ m)
        cases k h = grind arith

    pub least_first : (o p r : Option Place) → IsFirstOf q c (λ n. n < m) (option_map (place_reason style) o) → IsFirstOf q c (λ n. n ≡ m) (option_map (place_reason style) p) → IsLeastOf o p r → IsFirstOf q c (λ n. n < suc m) (option_map (place_reason style) r)
    least_first None None r low high least = subst (λ z. IsFirstOf q c (λ n. n < suc m) (option_map (place_reason style) z)) (sym least) (λ s a. ⊎_elim (λ l. low s l) (λ k. high s k) (low_or_last s a))
    least_first None (Some y) r low high least =
        subst (λ z. IsFirstOf q c (λ n. n < suc m) (option_map (place_reason style) z)) (sym least)
        ((high.0.0, omega (arith, high.0.1)), high.1, (λ s a e f. ⊎_elim (λ l. passes_not s a.0 (low s l) f) (λ k. high.2 s k e f) (low_or_last s a)))
    least_first (Some x) None r low high least =
        subst (λ z. IsFirstOf q c (λ n. n < suc m) (option_map (place_reason style) z)) (sym least)
        ((low.0.0, omega (arith, low.0.1)), low.1, (λ s a e f. ⊎_elim (λ l. low.2 s l e f) (λ k. passes_not s a.0 (high s k) f) (low_or_last s a)))
    least_first (Some x) (Some y) r low high least =
        ⊎_elim
        (λ h. subst (λ z. IsFirstOf q c (λ n. n < suc m) (option_map (place_reason style) z)) (sym h.0)
        ((low.0.0, omega (arith, low.0.1)), low.1, (λ s a e f. ⊎_elim (λ l. low.2 s l e f) (λ k. not_before (place_reason style y) (place_reason style x) s high.1 f (λ b. high.2 s k b f) (λ b. h.1 (place_earlier style y x b)) e) (low_or_last s a))))
        (λ h. subst (λ z. IsFirstOf q c (λ n. n < suc m) (option_map (place_reason style) z)) (sym h.0)
        ((high.0.0, omega (arith, high.0.1)), high.1, (λ s a e f. ⊎_elim (λ l. not_before (place_reason style x) (place_reason style y) s low.1 f (λ b. low.2 s l b f) (λ b. h.1 (place_earlier style x y b)) e) (λ k. high.2 s k e f) (low_or_last s a))))
        least
