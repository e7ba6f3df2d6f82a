-- The members of a filtered list are those that pass the test.
use Rattle.std.proofs.Common.{◌≡◌, ◌⊎◌, inl, inr, ⊎_elim, List, [], ◌∷◌, refl, sym, subst, Bool, true, false, cond}
use Rattle.std.specs.Bool.{IsTrue}
use Rattle.std.specs.List.{filter}
use Rattle.std.proofs.lemmas.Bool.{both_ways, cond_both}
use Rattle.kat_model.specs.Members.{Has}

module _ {X : Type 0} (p : X → Bool) where
  first_or_later : (y : X) (xs : List X) (x : X) → Has (filter p (y ∷ xs)) x → ((y ≡ x) × IsTrue (p x)) ⊎ Has (filter p xs) x
  first_or_later y xs x h = go (p y) refl h
    where
      go : (c : Bool) → p y ≡ c → Has (cond c (y ∷ filter p xs) (filter p xs)) x → ((y ≡ x) × IsTrue (p x)) ⊎ Has (filter p xs) x
      go true t k = ⊎_elim (λ e. inl (e, subst (λ z. IsTrue (p z)) e t)) inr k
      go false t k = inr k

  pub has_filter : (xs : List X) (x : X) → Has (filter p xs) x → Has xs x × IsTrue (p x)
  has_filter [] x h = absurd h
  has_filter (y ∷ xs) x h =
      ⊎_elim (λ r. (inl r.0, r.1)) (λ k. let r = has_filter xs x k in (inr r.0, r.1)) (first_or_later y xs x h)

  pub filter_has : (xs : List X) (x : X) → Has xs x → IsTrue (p x) → Has (filter p xs) x
  filter_has [] x h t = absurd h
  filter_has (y ∷ xs) x h t =
      ⊎_elim
      (λ e. cond_both (p y) (y ∷ filter p xs) (filter p xs) (λ l. Has l x) (λ s. inl e) (λ s. absurd (both_ways (p y) s (subst (λ z. IsTrue (p z)) (sym e) t))))
      (λ k. cond_both (p y) (y ∷ filter p xs) (filter p xs) (λ l. Has l x) (λ s. inr (filter_has xs x k t)) (λ s. filter_has xs x k t))
      h
