-- The listed pairs that count.
use Rattle.std.proofs.Common.{◌≡◌, ◌↔◌, ℕ, inl, inr, ⊎_elim, List, [], ◌∷◌, map, refl, sym, ap, ◌∙◌, subst, Bool, true, false, cond, Option, None}
use Rattle.kat_model.specs.Members.{Has}
use Rattle.term_nodes.specs.NumberSets.{NumberPair, are_below}
use Rattle.certificate.specs.PairParts.{PairParts, only_sets}
use Rattle.cert_checker.specs.declared.known.Truth.{Truth}
use Rattle.cert_checker.specs.declared.saturation.Counted.{Counted}
use Rattle.cert_checker.specs.Working.Reaching.{ArePairsBelow}
use Rattle.cert_checker.specs.Working.Matching.{may_be, does_count, counting}
use Rattle.cert_checker.specs.Cases.{known_test}
use Rattle.cert_checker.specs.Questions.{ActionPassParts}
use Rattle.cert_checker.specs.Working.Rounds.{counting_in}

-- equal arguments give equal lists of counting pairs
counting_as : (a b : Bool) (known other : List Truth) (ps qs : List PairParts) → a ≡ b → known ≡ other → ps ≡ qs → counting a known ps ≡ counting b other qs
counting_as a b known other ps qs e f g = ap (λ (x : Bool). counting x known ps) e ∙ ap (λ (k : List Truth). counting b k ps) f ∙ ap (counting b other) g

-- a property holds for the counting pairs of `counted` if and only if it holds for those of its parts
pub counted_as : (P : ActionPassParts → List NumberPair → Type 0) (counted : Counted) (action_pass : ActionPassParts) (known : List Truth) (also : Bool) → counted.action_pass.now ≡ action_pass → counted.known.now ≡ known → counted.also_open ≡ also → P counted.action_pass.now (counting_in counted) ↔ P action_pass (counting also known action_pass.pairs)
counted_as P counted action_pass known also e f g =
    let same : counting_in counted ≡ counting also known action_pass.pairs = counting_as counted.also_open also counted.known.now known counted.action_pass.now.pairs action_pass.pairs g f (ap (λ (t : ActionPassParts). t.pairs) e) in (
      (λ h. subst (λ (t : ActionPassParts). P t (counting also known action_pass.pairs)) e (subst (P counted.action_pass.now) same h)),
      (λ h. subst (P counted.action_pass.now) (sym same) (subst (λ (t : ActionPassParts). P t (counting also known action_pass.pairs)) (sym e) h)),
    )

module _ (also : Bool) (known : List Truth) where
  pub counting_has : (ps : List PairParts) (n : NumberPair) → Has (counting also known ps) n → (p : PairParts) × Has ps p × (does_count also known p ≡ true) × (only_sets p ≡ n)
  counting_has [] n h = absurd h
  counting_has (p ∷ ps) n h = go (does_count also known p) refl (λ k. let f = counting_has ps n k in (f.0, inr f.1, f.2, f.3)) h
    where
      go : (b : Bool) → does_count also known p ≡ b → (Has (counting also known ps) n → (r : PairParts) × Has (p ∷ ps) r × (does_count also known r ≡ true) × (only_sets r ≡ n)) → Has (cond b (only_sets p ∷ counting also known ps) (counting also known ps)) n → (r : PairParts) × Has (p ∷ ps) r × (does_count also known r ≡ true) × (only_sets r ≡ n)
      go true e later k = ⊎_elim (λ s. (p, inl refl, e, s)) later k
      go false e later k = later k

  pub has_counting : (ps : List PairParts) (p : PairParts) → Has ps p → does_count also known p ≡ true → Has (counting also known ps) (only_sets p)
  has_counting [] p h e = absurd h
  has_counting (q ∷ ps) p h e = ⊎_elim (λ s. here s) (λ k. later (does_count also known q) (has_counting ps p k e)) h
    where
      later : (b : Bool) → Has (counting also known ps) (only_sets p) → Has (cond b (only_sets q ∷ counting also known ps) (counting also known ps)) (only_sets p)
      later true k = inr k
      later false k = k

      here : q ≡ p → Has (cond (does_count also known q) (only_sets q ∷ counting also known ps) (counting also known ps)) (only_sets p)
      here s = subst (λ z. Has (cond (does_count also known z) (only_sets z ∷ counting also known ps) (counting also known ps)) (only_sets p)) (sym s) (rw e (inl refl))

  pub counting_below : (n : ℕ) (ps : List PairParts) → ((p : PairParts) → Has ps p → (are_below n p.left ≡ true) × (are_below n p.right ≡ true)) → ArePairsBelow n (counting also known ps)
  counting_below n ps numbers m h =
      let f = counting_has ps m h in
      subst (λ (p : NumberPair). (are_below n p.left ≡ true) × (are_below n p.right ≡ true)) f.3 (numbers f.0 f.1)

  -- without tests all pairs count
  pub counting_all : (ps : List PairParts) → ((p : PairParts) → Has ps p → p.test ≡ None) → counting also known ps ≡ map only_sets ps
  counting_all [] untested = refl
  counting_all (p ∷ ps) untested =
      let on : does_count also known p ≡ true = ap (λ (o : Option ℕ). may_be also (known_test known o)) (untested p (inl refl)) in
      rw on (ap (λ (ns : List NumberPair). only_sets p ∷ ns) (counting_all ps (λ q h. untested q (inr h))))
