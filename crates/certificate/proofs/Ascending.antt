-- Ascending lists of numbers: each number is below the next, and so below all later ones.
use Rattle.std.proofs.Common.{◌≡◌, inl, inr, ⊎_elim, ℕ, ◌<◌, List, [], ◌∷◌, ◌++◌, true, nat_lt, ltb-true, refl, subst, arith}
use Rattle.std.proofs.lemmas.Bool.{and_parts, and_from, lt-ltb}
use Rattle.kat_model.specs.Members.{Has, HasNoDoubles}
use Rattle.term_nodes.specs.NumberSets.{are_ascending}

pub ascending_tail : (k : ℕ) (ks : List ℕ) → are_ascending (k ∷ ks) ≡ true → are_ascending ks ≡ true
ascending_tail k [] e = refl
ascending_tail k (j ∷ ks) e = (and_parts (nat_lt k j) (are_ascending (j ∷ ks)) e).1

-- the first number is the least
pub ascending_first : (k : ℕ) (ks : List ℕ) → are_ascending (k ∷ ks) ≡ true → (x : ℕ) → Has ks x → k < x
ascending_first k [] e x h = absurd h
ascending_first k (j ∷ ks) e x h =
    let parts = and_parts (nat_lt k j) (are_ascending (j ∷ ks)) e in
    let low : k < j = ltb-true k j parts.0 in
    ⊎_elim (λ s. subst (λ z. k < z) s low) (λ r. let more = ascending_first j ks parts.1 x r in omega (arith, low, more)) h

-- a list remains ascending if a number above all its members is appended
pub ascending_more : (ks : List ℕ) (x : ℕ) → are_ascending ks ≡ true → ((y : ℕ) → Has ks y → y < x) → are_ascending (ks ++ x ∷ []) ≡ true
ascending_more [] x e below = refl
ascending_more (k ∷ []) x e below = and_from (nat_lt k x) true (lt-ltb k x (below k (inl refl))) refl
ascending_more (k ∷ j ∷ ks) x e below =
    let parts = and_parts (nat_lt k j) (are_ascending (j ∷ ks)) e in
    and_from (nat_lt k j) (are_ascending (j ∷ (ks ++ x ∷ []))) parts.0 (ascending_more (j ∷ ks) x parts.1 (λ y h. below y (inr h)))

-- no number occurs twice
pub ascending_once : (ks : List ℕ) → are_ascending ks ≡ true → HasNoDoubles ks
ascending_once [] e = tt
ascending_once (k ∷ ks) e = ((λ h. let low = ascending_first k ks e k h in omega (arith, low)), ascending_once ks (ascending_tail k ks e))

-- the first number of the second part of a list is not in the first part
pub ascending_seam : (ks rest : List ℕ) (x : ℕ) → are_ascending (ks ++ x ∷ rest) ≡ true → Has ks x → ⊥
ascending_seam [] rest x e h = h
ascending_seam (k ∷ ks) rest x e h =
    ⊎_elim (λ s. let low = ascending_first k (ks ++ x ∷ rest) e x (there ks) in omega (arith, low, s)) (ascending_seam ks rest x (ascending_tail k (ks ++ x ∷ rest) e)) h
  where
    there : (js : List ℕ) → Has (js ++ x ∷ rest) x
    there [] = inl refl
    there (j ∷ js) = inr (there js)
