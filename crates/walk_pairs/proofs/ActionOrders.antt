-- Lists of all actions, each paired with a count.
use Rattle.std.proofs.Common.{◌≡◌, ◌<◌, ◌+◌, ◌↔◌, ◌⊎◌, inl, inr, ⊎_elim, ℕ, true, nat_eq, List, [], ◌∷◌, ◌++◌, map, sym, ◌∙◌, subst, arith}
use Rattle.std.specs.List.{list_any}
use Rattle.std.specs.List.Sorted.{IsPermutation}
use Rattle.std.proofs.lemmas.List.{map-append}
use Rattle.std.proofs.lemmas.Bool.{or_cases, or_left, or_right}
use Rattle.std.proofs.lemmas.List.Sorted.{list_any-IsPermutation}
use Rattle.kat_model.specs.Members.{Has}
use Rattle.kat_model.proofs.Lists.{has_left, has_right, has_append}

-- the actions of the list
abbrev pub acts_of : List (ℕ × ℕ) → List ℕ
acts_of ps = map (λ p. p.1) ps

acts_append : (ps : List (ℕ × ℕ)) (p : ℕ × ℕ) → acts_of (ps ++ p ∷ []) ≡ acts_of ps ++ p.1 ∷ []
acts_append ps p = map-append (λ q. q.1) ps (p ∷ [])

-- appending the next action
pub counted_next : (ps : List (ℕ × ℕ)) (n k : ℕ) → ((a : ℕ) → Has (acts_of ps) a ↔ (a < k)) → (a : ℕ) → Has (acts_of (ps ++ (n, k) ∷ [])) a ↔ (a < k + 1)
counted_next ps n k before a = (
  (λ h. ⊎_elim
      (λ o. let l = (before a).0 o in omega (arith, l))
      (λ s. ⊎_elim (λ e. omega (arith, e)) absurd s)
      (has_append (acts_of ps) (k ∷ []) a (subst (λ l. Has l a) (acts_append ps (n, k)) h))),
  (λ l. subst (λ m. Has m a) (sym (acts_append ps (n, k))) (there (split l))),
)
  where
    split : a < k + 1 → (a < k) ⊎ (k ≡ a)
    split l = grind (arith, l)

    there : (a < k) ⊎ (k ≡ a) → Has (acts_of ps ++ k ∷ []) a
    there s = ⊎_elim (λ l. has_left (acts_of ps) (k ∷ []) a ((before a).1 l)) (λ e. has_right (acts_of ps) (k ∷ []) a (inl e)) s

-- an action is in the list exactly when some pair has it
any_acts : (a : ℕ) (ps : List (ℕ × ℕ)) → (list_any (λ q. nat_eq q.1 a) ps ≡ true) ↔ Has (acts_of ps) a
any_acts a [] = ((λ e. absurd cc), absurd)
any_acts a (p ∷ ps) =
    let rest = any_acts a ps in
    let here = list_any (λ q. nat_eq q.1 a) ps in (
      (λ e. ⊎_elim (λ h. inl (grind (arith, h))) (λ h. inr (rest.0 h)) (or_cases (nat_eq p.1 a) here e)),
      (λ h. ⊎_elim (λ s. or_left (nat_eq p.1 a) here (grind (arith, s))) (λ r. or_right (nat_eq p.1 a) here (rest.1 r)) h),
    )

-- sorting keeps the set of actions
pub sorted_acts : (ps qs : List (ℕ × ℕ)) (n : ℕ) (acts : List ℕ) → IsPermutation ps qs → acts ≡ acts_of qs → ((a : ℕ) → Has (acts_of ps) a ↔ (a < n)) → (a : ℕ) → Has acts a ↔ (a < n)
sorted_acts ps qs n acts moved is all a =
    let same : list_any (λ q. nat_eq q.1 a) ps ≡ list_any (λ q. nat_eq q.1 a) qs = list_any-IsPermutation (λ q. nat_eq q.1 a) ps qs moved in (
      (λ h. (all a).0 ((any_acts a ps).0 (same ∙ (any_acts a qs).1 (subst (λ l. Has l a) is h)))),
      (λ l. subst (λ m. Has m a) (sym is) ((any_acts a qs).0 (sym same ∙ (any_acts a ps).1 ((all a).1 l)))),
    )
