-- The position at which a test of equality finds a member of a list.
use Rattle.std.proofs.Common.{◌≡◌, ℕ, ◌<◌, ⊎_elim, List, [], ◌∷◌, length, refl, sym, ap, subst, arith, Bool, true, false, nat_lt, slice_get, Some}
use Rattle.std.specs.List.{position, position_or_len}
use Rattle.std.proofs.lemmas.Bool.{both_ways}
use Rattle.std.proofs.lemmas.Bool.Decides.{nat_tests}
use Rattle.std.proofs.Math.Numerals.{one-add}
use Rattle.kat_model.specs.Members.{Has}

module _ {X : Type 0} (same : X → X → Bool) (is : (x y : X) → same x y ≡ true → x ≡ y) (own : (x : X) → same x x ≡ true) where
  first_place : (xs : List X) (x : X) → Has xs x → (position_or_len (same x) xs < length xs) × (slice_get xs (position_or_len (same x) xs) ≡ Some x)
  first_place [] x h = absurd h
  first_place (y ∷ xs) x h = by_cases (same x y) refl (λ m. first_place xs x m)
    where
      by_cases : (b : Bool) → same x y ≡ b → (Has xs x → (position_or_len (same x) xs < length xs) × (slice_get xs (position_or_len (same x) xs) ≡ Some x)) →
          (position_or_len (same x) (y ∷ xs) < length (y ∷ xs)) × (slice_get (y ∷ xs) (position_or_len (same x) (y ∷ xs)) ≡ Some x)
      by_cases true e later = rw e (omega arith, ap Some (sym (is x y e)))
      by_cases false e later =
          ⊎_elim
          (λ s. absurd (both_ways (same x y) e (subst (λ z. same x z ≡ true) (sym s) (own x))))
          (λ m. let l = later m in rw (e, one-add (position_or_len (same x) xs)) (omega (arith, l.0), l.1))
          h

  -- the test finds a position for each member, and the list has the member at this position
  pub position_of_member : (xs : List X) (x : X) → Has xs x → (k : ℕ) × (position (same x) xs ≡ Some k) × (slice_get xs k ≡ Some x)
  position_of_member xs x h =
      let p = first_place xs x h in
      let within : nat_lt (position_or_len (same x) xs) (length xs) ≡ true = grind (arith, nat_tests, p.0) in
      (position_or_len (same x) xs, rw within refl, p.1)
