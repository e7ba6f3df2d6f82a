-- The sets of tests that forbidden moves and pairs name.
use Rattle.std.proofs.Common.{◌≡◌, ◌<◌, ◌≤◌, ◌+◌, ◌⊎◌, ◌↔◌, inl, inr, ⊎_elim, ℕ, List, [], ◌∷◌, ◌++◌, length, get_or, take, refl, sym, ap, ◌∙◌, subst}
use Rattle.std.specs.BTreeSet.{insert_key}
use Rattle.std.specs.Ordering.{nat_cmp}
use Rattle.std.proofs.lemmas.List.{take_all, take_more, get_or_default}
use Rattle.std.proofs.lemmas.Map.Lookups.{exact_unsigned}
use Rattle.kat_model.specs.Members.{Has}
use Rattle.kat_model.proofs.Lists.{has_left, has_right, has_pushed}
use Rattle.kat_model.proofs.SetKeys.{inserted_has}

-- a set after one number was added to it
pub one_added : (old new : List ℕ) (k : ℕ) → new ≡ insert_key nat_cmp old k → (x : ℕ) → Has new x ↔ (Has old x ⊎ (k ≡ x))
one_added old new k e x = subst (λ ns. Has ns x ↔ (Has old x ⊎ (k ≡ x))) (sym e) (inserted_has exact_unsigned k old x)

module _ {X : Type 0} (P : X → ℕ → Type 0) where
  -- the new set has the members of the old one, and the numbers to which one of the elements is related
  abbrev pub AddsOf : List ℕ → List ℕ → List X → Type 0
  AddsOf old new xs = (k : ℕ) → Has new k ↔ (Has old k ⊎ ((x : X) × Has xs x × P x k))

  pub of_none : (old : List ℕ) → AddsOf old old []
  of_none old k = (inl, (λ h. ⊎_elim (λ o. o) (λ w. absurd w.1) h))

  -- the numbers of the next element are added
  pub of_more : (old mid new : List ℕ) (xs : List X) (i : ℕ) (x : X) → i < length xs → x ≡ get_or xs i x → ((k : ℕ) → Has new k ↔ (Has mid k ⊎ P x k)) → AddsOf old mid (take i xs) → AddsOf old new (take (i + 1) xs)
  of_more old mid new xs i x low at adds was = subst (AddsOf old new) (sym (take_more xs i x low ∙ ap (λ y. take i xs ++ y ∷ []) (sym at))) more
    where
      more : AddsOf old new (take i xs ++ x ∷ [])
      more k = (
        (λ h. ⊎_elim
            (λ m. ⊎_elim inl (λ w. inr (w.0, has_left (take i xs) (x ∷ []) w.0 w.1, w.2)) ((was k).0 m))
            (λ p. inr (x, has_right (take i xs) (x ∷ []) x (inl refl), p))
            ((adds k).0 h)),
        (λ h. ⊎_elim
            (λ o. (adds k).1 (inl ((was k).1 (inl o))))
            (λ w. ⊎_elim (λ f. (adds k).1 (inl ((was k).1 (inr (w.0, f, w.2))))) (λ e. (adds k).1 (inr (subst (λ y. P y k) (sym e) w.2))) (has_pushed (take i xs) x w.0 w.1))
            h),
      )

  pub of_next : (old mid new : List ℕ) (xs : List X) (i : ℕ) (d : X) → i < length xs → ((k : ℕ) → Has new k ↔ (Has mid k ⊎ P (get_or xs i d) k)) → AddsOf old mid (take i xs) → AddsOf old new (take (i + 1) xs)
  of_next old mid new xs i d low = of_more old mid new xs i (get_or xs i d) low (get_or_default xs i d (get_or xs i d) low)

  -- the numbers of all elements are added
  pub of_all : (old new : List ℕ) (xs : List X) (i : ℕ) → length xs ≤ i → AddsOf old new (take i xs) → AddsOf old new xs
  of_all old new xs i past was = subst (AddsOf old new) (take_all i xs past) was

  -- to an empty set
  pub of_empty : (old new : List ℕ) (xs : List X) → old ≡ [] → AddsOf old new xs → (k : ℕ) → Has new k → (x : X) × Has xs x × P x k
  of_empty old new xs none made k h = ⊎_elim (λ was. absurd (subst (λ l. Has l k) none was)) (λ w. w) ((made k).0 h)
