-- Terms that relate the same states of a frame; agreement of parts implies agreement of whole terms.
use Rattle.std.proofs.Common.{◌≡◌, ℕ, zero as nought, suc, inl, inr, ⊎_elim, ◌↔◌, List, [], ◌∷◌, Some}
use Rattle.kat_model.specs.Trees.{Term, sum, product, star}
use Rattle.kat_model.specs.Relations.{Frame, RelatesIn}
use Rattle.kat_model.proofs.Closure.{along_weaken}
use Rattle.chain_rules.specs.Places.{subterm, AreEqualOutside}

module _ {S : Type 0} (frame : Frame S) where
  -- the two terms relate the same states
  abbrev pub Agree : Term → Term → Type 0
  Agree e f = (i j : S) → frame.IsState i → frame.IsState j → RelatesIn frame e i j ↔ RelatesIn frame f i j

  pub agree_itself : (e : Term) → Agree e e
  agree_itself e i j si sj = ((λ h. h), (λ h. h))

  pub agree_sym : (e f : Term) → Agree e f → Agree f e
  agree_sym e f a i j si sj = ((a i j si sj).1, (a i j si sj).0)

  pub agree_trans : (e f g : Term) → Agree e f → Agree f g → Agree e g
  agree_trans e f g a b i j si sj =
      ((λ h. (b i j si sj).0 ((a i j si sj).0 h)), (λ h. (a i j si sj).1 ((b i j si sj).1 h)))

  agree_equal : (e f : Term) → e ≡ f → Agree e f
  agree_equal e f p = rw p (agree_itself f)

  agree_sum : (a b c d : Term) → Agree a c → Agree b d → Agree (sum a b) (sum c d)
  agree_sum a b c d p q i j si sj = (
    (λ h. ⊎_elim (λ l. inl ((p i j si sj).0 l)) (λ r. inr ((q i j si sj).0 r)) h),
    (λ h. ⊎_elim (λ l. inl ((p i j si sj).1 l)) (λ r. inr ((q i j si sj).1 r)) h),
  )

  agree_product : (a b c d : Term) → Agree a c → Agree b d → Agree (product a b) (product c d)
  agree_product a b c d p q i j si sj = (
    (λ h. (h.0, h.1, (p i h.0 si h.1).0 h.2, (q h.0 j h.1 sj).0 h.3)),
    (λ h. (h.0, h.1, (p i h.0 si h.1).1 h.2, (q h.0 j h.1 sj).1 h.3)),
  )

  agree_star : (a c : Term) → Agree a c → Agree (star a) (star c)
  agree_star a c p i j si sj = (
    (λ h. (h.0, along_weaken frame.IsState (RelatesIn frame a) (RelatesIn frame c) (λ k l sk sl r. (p k l sk sl).0 r) h.0 i j si h.1)),
    (λ h. (h.0, along_weaken frame.IsState (RelatesIn frame c) (RelatesIn frame a) (λ k l sk sl r. (p k l sk sl).1 r) h.0 i j si h.1)),
  )

  -- two terms that are equal outside a place agree if their subterms there agree
  pub agree_at : (path : List ℕ) (e f x y : Term) → AreEqualOutside path e f → subterm path e ≡ Some x → subterm path f ≡ Some y → Agree x y → Agree e f
  agree_at [] e f x y o b c a =
      let p : e ≡ x = cc in
      let q : f ≡ y = cc in
      rw (p, q) a
  agree_at (nought ∷ path) (sum e g) (sum f h) x y o b c a = agree_sum e g f h (agree_at path e f x y o.0 b c a) (agree_equal g h o.1)
  agree_at (suc nought ∷ path) (sum g e) (sum h f) x y o b c a = agree_sum g e h f (agree_equal g h o.0) (agree_at path e f x y o.1 b c a)
  agree_at (nought ∷ path) (product e g) (product f h) x y o b c a = agree_product e g f h (agree_at path e f x y o.0 b c a) (agree_equal g h o.1)
  agree_at (suc nought ∷ path) (product g e) (product h f) x y o b c a = agree_product g e h f (agree_equal g h o.0) (agree_at path e f x y o.1 b c a)
  agree_at (nought ∷ path) (star e) (star f) x y o b c a = agree_star e f (agree_at path e f x y o b c a)
  agree_at (k ∷ path) e f x y o b c a = absurd o
