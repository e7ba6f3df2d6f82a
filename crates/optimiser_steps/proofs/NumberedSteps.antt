-- Facts in a list, selected by their number as steps are.
use Rattle.std.proofs.Common.{◌≤◌, ℕ, zero, suc, ◌⊎◌, inl, inr, List, [], ◌∷◌, length, arith}
use Rattle.optimiser_steps.specs.Steps.{NthHolds}

-- one of the facts holds
abbrev pub SomeHolds : List (Type 0) → Type 0
SomeHolds [] = ⊥
SomeHolds (A ∷ As) = A ⊎ SomeHolds As

pub some_holds : (n : ℕ) (As : List (Type 0)) → NthHolds n As → SomeHolds As
some_holds n [] h = absurd h
some_holds zero (A ∷ As) h = absurd h
some_holds (suc zero) (A ∷ As) h = inl h
some_holds (suc (suc n)) (A ∷ As) h = inr (some_holds (suc n) As h)

-- at some position, the facts of both lists hold
abbrev pub SomeHold : List (Type 0) → List (Type 0) → Type 0
SomeHold [] Bs = ⊥
SomeHold (A ∷ As) [] = ⊥
SomeHold (A ∷ As) (B ∷ Bs) = (A × B) ⊎ SomeHold As Bs

pub some_hold : (n : ℕ) (As Bs : List (Type 0)) → NthHolds n As → NthHolds n Bs → SomeHold As Bs
some_hold n [] Bs h k = absurd h
some_hold n (A ∷ As) [] h k = absurd k
some_hold zero (A ∷ As) (B ∷ Bs) h k = absurd h
some_hold (suc zero) (A ∷ As) (B ∷ Bs) h k = inl (h, k)
some_hold (suc (suc n)) (A ∷ As) (B ∷ Bs) h k = inr (some_hold (suc n) As Bs h k)

-- every such number is between 1 and the length
pub nth_within : (n : ℕ) (As : List (Type 0)) → NthHolds n As → (1 ≤ n) × (n ≤ length As)
nth_within n [] h = absurd h
nth_within zero (A ∷ As) h = absurd h
nth_within (suc zero) (A ∷ As) h = (omega arith, omega arith)
nth_within (suc (suc n)) (A ∷ As) h = let rest = nth_within (suc n) As h in (omega arith, omega (arith, rest.1))
