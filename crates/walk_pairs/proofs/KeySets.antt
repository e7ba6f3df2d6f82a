-- Members of sets that are stored as sorted keys.
use Rattle.std.proofs.Common.{◌≡◌, ◌<◌, ◌≤◌, ◌+◌, length, get_or, take, ◌⊎◌, inl, inr, ⊎_elim, ℕ, true, nat_eq, List, [], ◌∷◌, ◌++◌, refl, sym, subst}
use Rattle.std.specs.List.{list_any}
use Rattle.std.specs.Ordering.{nat_cmp}
use Rattle.std.proofs.lemmas.Bool.{eq-eqb}
use Rattle.std.proofs.lemmas.List.{take_all}
use Rattle.std.proofs.lemmas.Map.Lookups.{exact_unsigned}
use Rattle.std.specs.BTreeSet.{insert_key}
use Rattle.kat_model.specs.Members.{Has, IsSubset}
use Rattle.kat_model.proofs.Lists.{has_left, has_right, has_append, any_has}
use Rattle.kat_model.proofs.SetKeys.{inserted_has}
use Rattle.partial_derivs.proofs.Items.{take_item}
use Rattle.walk_pairs.specs.Needed.{AddsAll}

-- inserting the next of the keys to add
pub adds_next : (old ks new terms : List ℕ) (i k : ℕ) → i < length terms → k ≡ get_or terms i k → new ≡ insert_key nat_cmp ks k → AddsAll old ks (take i terms) → AddsAll old new (take (i + 1) terms)
adds_next old ks new terms i k lt is e a =
    subst (λ ns. AddsAll old ns (take (i + 1) terms)) (sym e) (subst (AddsAll old (insert_key nat_cmp ks k)) (sym (take_item terms i k lt is)) next)
  where
    next : AddsAll old (insert_key nat_cmp ks k) (take i terms ++ k ∷ [])
    next x = (
      (λ h. ⊎_elim
          (λ o. ⊎_elim inl (λ m. inr (has_left (take i terms) (k ∷ []) x m)) ((a x).0 o))
          (λ s. inr (has_right (take i terms) (k ∷ []) x (inl s)))
          ((inserted_has exact_unsigned k ks x).0 h)),
      (λ h. (inserted_has exact_unsigned k ks x).1 (⊎_elim
          (λ o. inl ((a x).1 (inl o)))
          (λ m. ⊎_elim (λ t. inl ((a x).1 (inr t))) (λ s. inr (⊎_elim (λ z. z) absurd s)) (has_append (take i terms) (k ∷ []) x m))
          h)),
    )

pub adds_first : (old terms : List ℕ) → AddsAll old old (take 0 terms)
adds_first old terms x = (inl, (λ h. ⊎_elim (λ a. a) absurd h))

pub adds_last : (old new terms : List ℕ) (i : ℕ) → length terms ≤ i → AddsAll old new (take i terms) → AddsAll old new terms
adds_last old new terms i le a = subst (AddsAll old new) (take_all i terms le) a

pub inserted_kept : (old ks new : List ℕ) (k : ℕ) → new ≡ insert_key nat_cmp ks k → IsSubset old ks → IsSubset old new
inserted_kept old ks new k e s = subst (IsSubset old) (sym e) (λ x h. (inserted_has exact_unsigned k ks x).1 (inl (s x h)))

-- ---- keys in order of insertion

pub found_there : (k : ℕ) (ks : List ℕ) → Has ks k → list_any (nat_eq k) ks ≡ true
found_there k ks h = any_has (nat_eq k) ks k h (eq-eqb k k refl)
