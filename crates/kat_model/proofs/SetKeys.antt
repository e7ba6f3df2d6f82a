-- The keys of a `BTreeSet`: lookups and inserts.
use Rattle.std.proofs.Common.{◌≡◌, ◌⊎◌, ◌↔◌, inl, inr, ⊎_elim, true, List, [], ◌∷◌, refl, sym, ap, ◌∙◌, subst}
use Rattle.std.specs.List.{list_any}
use Rattle.std.specs.Cmp.{IsTotalOrder}
use Rattle.std.specs.Ordering.{is_eq, match_ordering}
use Rattle.std.specs.declared.cmp.Ordering.{Ordering}
use Rattle.std.specs.declared.cmp.Ordering.TheVariants.{Less, Equal, Greater}
use Rattle.std.specs.BTreeMap.{is_at}
use Rattle.std.specs.BTreeSet.{insert_key}
use Rattle.std.proofs.lemmas.Cmp.{tied_itself}
use Rattle.std.proofs.lemmas.Map.Lookups.{CmpEqualImpliesEq}
use Rattle.std.proofs.lemmas.Map.Views.{tells_apart}
use Rattle.kat_model.specs.Members.{Has}
use Rattle.kat_model.proofs.Lists.{has_any, any_has}

module _ {K : Type 0} {R : K → K → Ordering} where
  -- a key compares equal to itself
  pub is_at_own : IsTotalOrder R → (k : K) → is_at (R k) k ≡ true
  is_at_own order k = ap is_eq (tied_itself order k)

  -- a key is found exactly when it is in the set
  pub found_has : IsTotalOrder R → CmpEqualImpliesEq R → (k : K) (ks : List K) → (list_any (is_at (R k)) ks ≡ true) ↔ Has ks k
  found_has order exact k ks = (
    (λ e. let found = has_any (is_at (R k)) ks e in subst (Has ks) (sym (tells_apart exact k found.0 found.2)) found.1),
    (λ h. any_has (is_at (R k)) ks k h (is_at_own order k)),
  )

  -- an insert adds the key and keeps the others
  pub inserted_has : CmpEqualImpliesEq R → (k : K) (ks : List K) (x : K) → Has (insert_key R ks k) x ↔ (Has ks x ⊎ (k ≡ x))
  inserted_has exact k [] x = ((λ h. ⊎_elim inr absurd h), (λ h. ⊎_elim absurd inl h))
  inserted_has exact k (j ∷ ks) x = go (R k j) (exact k j) (inserted_has exact k ks x)
    where
      go : (o : Ordering) → (o ≡ Equal → k ≡ j) → (Has (insert_key R ks k) x ↔ (Has ks x ⊎ (k ≡ x)))
          → Has (match_ordering o (k ∷ j ∷ ks) (j ∷ ks) (j ∷ insert_key R ks k)) x ↔ (Has (j ∷ ks) x ⊎ (k ≡ x))
      go Less same rest = ((λ h. ⊎_elim inr inl h), (λ h. ⊎_elim inr inl h))
      go Equal same rest = (inl, (λ h. ⊎_elim (λ a. a) (λ s. inl (sym (same refl) ∙ s)) h))
      go Greater same rest = (
        (λ h. ⊎_elim (λ a. inl (inl a)) (λ r. ⊎_elim (λ a. inl (inr a)) inr (rest.0 r)) h),
        (λ h. ⊎_elim (λ a. ⊎_elim inl (λ b. inr (rest.1 (inl b))) a) (λ s. inr (rest.1 (inr s))) h),
      )
