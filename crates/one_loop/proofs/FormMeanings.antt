-- The meaning of a form.
use Rattle.std.proofs.Common.{◌≡◌, ℕ, zero, suc, ◌+◌, ◌<◌, ◌↔◌, inl, inr, List, [], ◌∷◌, ◌++◌, length, Some, refl, sym, ap, ◌∙◌, subst, arith}
use Rattle.std.specs.List.{slice_get}
use Rattle.std.proofs.lemmas.List.{length_push}
use Rattle.std.proofs.lemmas.Option.{same_Some}
use Rattle.kat_model.specs.Members.{Has}
use Rattle.kat_model.specs.Stores.{modulus, Store, IsStore}
use Rattle.kat_model.specs.declared.expression.Width.{Width}
use Rattle.while_lang.specs.Programs.{ProgTree}
use Rattle.while_lang.specs.Runs.{Ends}
use Rattle.one_loop.specs.Forms.{IsStoreOf, with_counter, IsOneForm}
use Rattle.one_loop.proofs.KeptStores.{goes_kept}

-- a store whose last variable is known is a store with that counter
split_last : (u : Store) (v c : ℕ) → length u ≡ v + 1 → slice_get u v ≡ Some c → (t : Store) × (u ≡ with_counter t c) × (length t ≡ v)
split_last [] v c len at = absurd (omega (arith, len))
split_last (x ∷ []) zero c len at = ([], ap (λ n. n ∷ []) (same_Some x c at), refl)
split_last (x ∷ y ∷ u) zero c len at = absurd (omega (arith, len))
split_last (x ∷ u) (suc v) c len at =
    let rest = split_last u v c (omega (arith, len)) at in
    (x ∷ rest.0, ap (λ (s : Store). x ∷ s) rest.1, ap suc rest.2)

module _ (w : Width) where
  -- a store with a counter below 2 to the width is a store, and so is the part before the counter
  counter_is_store : (s : Store) (c : ℕ) → IsStore w s → c < modulus w → IsStore w (with_counter s c)
  counter_is_store [] c is number n (inl e) = subst (λ (m : ℕ). m < modulus w) e number
  counter_is_store [] c is number n (inr h) = absurd h
  counter_is_store (x ∷ s) c is number n (inl e) = is n (inl e)
  counter_is_store (x ∷ s) c is number n (inr h) = counter_is_store s c (λ m k. is m (inr k)) number n h

  before_is_store : (s : Store) (c : ℕ) → IsStore w (with_counter s c) → IsStore w s
  before_is_store [] c is n h = absurd h
  before_is_store (x ∷ s) c is n (inl e) = is n (inl e)
  before_is_store (x ∷ s) c is n (inr h) = before_is_store s c (λ m k. is m (inr k)) n h

  pub form_ends : (p q : ProgTree) (v : ℕ) → IsOneForm w p q v → (s u : Store) (c : ℕ) → IsStoreOf w v s → c < modulus w →
      Ends w q (with_counter s c) u ↔ ((t : Store) × Ends w p s t × (u ≡ with_counter t 0))
  form_ends p q v form s u c from number = (there, back)
    where
      there : Ends w q (with_counter s c) u → (t : Store) × Ends w p s t × (u ≡ with_counter t 0)
      there ends =
          let kept = goes_kept w q (with_counter s c) ends.0 u (counter_is_store s c from.1 number) ends.1 in
          let len : length u ≡ v + 1 = kept.1 ∙ length_push s c ∙ ap (λ n. n + 1) from.0 in
          let last = split_last u v 0 len (form.counter s u c from number ends) in
          let to : IsStoreOf w v last.0 = (last.2, before_is_store last.0 0 (subst (IsStore w) last.1 kept.0)) in
          (last.0, (form.ends s last.0 c from to number).1 (subst (λ x. Ends w q (with_counter s c) x) last.1 ends), last.1)

      back : (t : Store) × Ends w p s t × (u ≡ with_counter t 0) → Ends w q (with_counter s c) u
      back (t, ends, is) =
          let kept = goes_kept w p s ends.0 t from.1 ends.1 in
          subst (λ x. Ends w q (with_counter s c) x) (sym is) ((form.ends s t c from (kept.1 ∙ from.0, kept.0) number).0 ends)
