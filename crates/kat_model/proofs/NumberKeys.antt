-- Sets of numbers as keys of a `BTreeSet`: additions, and a bound that falls as the greatest numbers are removed.
use Rattle.std.proofs.Common.{◌≡◌, ◌<◌, ◌≤◌, ◌+◌, ℕ, suc, max, ◌⊎◌, ◌↔◌, inl, inr, ⊎_elim, List, [], ◌∷◌, ◌++◌, length, refl, sym, subst, arith}
use Rattle.std.specs.List.{All}
use Rattle.std.specs.Ordering.{nat_cmp}
use Rattle.std.specs.BTreeSet.{insert_key}
use Rattle.std.proofs.lemmas.Map.Lookups.{exact_unsigned}
use Rattle.kat_model.specs.Members.{Has}
use Rattle.kat_model.proofs.Lists.{has_right}
use Rattle.kat_model.proofs.SetKeys.{inserted_has}

-- what holds at each index holds for each member
pub all_of : (P : ℕ → Type 0) (xs : List ℕ) → All P xs → (x : ℕ) → Has xs x → P x
all_of P [] all x h = absurd h
all_of P (y ∷ xs) all x h =
    ⊎_elim (λ e. subst P e (all 0 y (omega arith))) (λ r. all_of P xs (λ k d lt. all (suc k) d (omega (arith, lt))) x r) h

-- ---- keys that are added

-- the new set has the members of the old one and these numbers
abbrev pub Adds : List ℕ → List ℕ → List ℕ → Type 0
Adds old new added = (x : ℕ) → Has new x ↔ (Has old x ⊎ Has added x)

pub adds_none : (old : List ℕ) → Adds old old []
adds_none old x = (inl, (λ h. ⊎_elim (λ o. o) absurd h))

pub adds_one : (old new : List ℕ) (k : ℕ) → new ≡ insert_key nat_cmp old k → Adds old new (k ∷ [])
adds_one old new k e x = subst (λ ns. Has ns x ↔ (Has old x ⊎ Has (k ∷ []) x)) (sym e) (
  (λ h. ⊎_elim inl (λ s. inr (inl s)) ((inserted_has exact_unsigned k old x).0 h)),
  (λ h. (inserted_has exact_unsigned k old x).1 (⊎_elim inl (λ m. inr (⊎_elim (λ z. z) absurd m)) h)),
)

pub adds_two : (old mid new : List ℕ) (j k : ℕ) → mid ≡ insert_key nat_cmp old j → new ≡ insert_key nat_cmp mid k → Adds old new (j ∷ k ∷ [])
adds_two old mid new j k e f x =
    let first = adds_one old mid j e x in
    let second = adds_one mid new k f x in (
      (λ h. ⊎_elim (λ m. ⊎_elim inl (λ a. inr (⊎_elim inl absurd a)) (first.0 m)) (λ a. inr (inr a)) (second.0 h)),
      (λ h. ⊎_elim (λ o. second.1 (inl (first.1 (inl o)))) (λ m. ⊎_elim (λ s. second.1 (inl (first.1 (inr (inl s))))) (λ r. second.1 (inr r)) m) h),
    )

-- ---- the greatest is taken

-- the least number greater than all members
abbrev pub bound_of : List ℕ → ℕ
bound_of [] = 0
bound_of (k ∷ ks) = max (k + 1) (bound_of ks)

pub bound_above : (ks : List ℕ) (x : ℕ) → Has ks x → x < bound_of ks
bound_above [] x h = absurd h
bound_above (k ∷ ks) x h = ⊎_elim (λ e. omega (arith, e)) (λ r. let more = bound_above ks x r in omega (arith, more)) h

pub bound_least : (ks : List ℕ) (n : ℕ) → ((x : ℕ) → Has ks x → x < n) → bound_of ks ≤ n
bound_least [] n f = omega arith
bound_least (k ∷ ks) n f = let first = f k (inl refl) in let rest = bound_least ks n (λ x h. f x (inr h)) in omega (arith, first, rest)

pub last_has : (ks rest : List ℕ) (k : ℕ) → ks ≡ rest ++ k ∷ [] → Has ks k
last_has ks rest k e = subst (λ l. Has l k) (sym e) (has_right rest (k ∷ []) k (inl refl))

pub none_left : (ks : List ℕ) → (0 < length ks → ⊥) → ks ≡ []
none_left [] f = refl
none_left (k ∷ ks) f = absurd (f (omega arith))
