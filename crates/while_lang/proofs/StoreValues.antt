-- Stores after an assignment to a variable.
use Rattle.std.proofs.Common.{◌≡◌, ℕ, zero, suc, ◌<◌, ◌⊎◌, inl, inr, ⊎_elim, [], ◌∷◌, set, subst}
use Rattle.kat_model.specs.Members.{Has}
use Rattle.kat_model.specs.Stores.{modulus, Store, IsStore}
use Rattle.kat_model.specs.declared.expression.Width.{Width}

set_has : (s : Store) (k v n : ℕ) → Has (set s k v) n → (v ≡ n) ⊎ Has s n
set_has [] k v n h = inr h
set_has (x ∷ s) zero v n (inl e) = inl e
set_has (x ∷ s) zero v n (inr h) = inr (inr h)
set_has (x ∷ s) (suc k) v n (inl e) = inr (inl e)
set_has (x ∷ s) (suc k) v n (inr h) = ⊎_elim {C = (v ≡ n) ⊎ Has (x ∷ s) n} (λ e. inl e) (λ m. inr (inr m)) (set_has s k v n h)

pub set_is_store : (w : Width) (s : Store) (k v : ℕ) → IsStore w s → v < modulus w → IsStore w (set s k v)
set_is_store w s k v is lt n h = ⊎_elim {C = n < modulus w} (λ e. subst (λ (m : ℕ). m < modulus w) e lt) (is n) (set_has s k v n h)
