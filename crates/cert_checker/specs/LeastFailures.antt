-- The least failure of a property, among the atoms that extend the decided tests.
use Rattle.std.specs.Prelude.{◌+◌, ℕ, Bool, false, List, [], ◌∷◌, map, Option, Some, None, unwrap_or}
use Rattle.kat_model.specs.Steps.{Atom}
use Rattle.cert_checker.specs.Cases.{Extends}
use Rattle.cert_checker.specs.AtomOrder.{IsLess}

-- the number of open tests
abbrev pub open_count : List (Option Bool) → ℕ
open_count [] = 0
open_count (None ∷ ds) = 1 + open_count ds
open_count (Some b ∷ ds) = open_count ds

-- the least atom that extends the decided tests
abbrev pub least_of : List (Option Bool) → Atom
least_of ds = map (λ d. unwrap_or d false) ds

-- the atom is less than the bound, if there is one
abbrev pub IsBelow : Option Atom → Atom → Type 0
IsBelow None atom = Unit {0}
IsBelow (Some bound) atom = IsLess atom bound

-- the property holds at each atom that extends the decided tests
abbrev pub HoldsThroughout : (Atom → Type 0) → List (Option Bool) → Type 0
HoldsThroughout P decided = (atom : Atom) → Extends decided atom → P atom

-- the atom is the least that extends the decided tests and at which the property fails
pub record IsLeastFailure (P : Atom → Type 0) (decided : List (Option Bool)) (atom : Atom) : Type 0 where
  pub within : Extends decided atom
  pub fails : P atom → ⊥
  pub least : (other : Atom) → Extends decided other → IsLess other atom → P other

-- the least failure, or none if the property holds throughout
abbrev pub IsFirstFailure : (Atom → Type 0) → List (Option Bool) → Option Atom → Type 0
IsFirstFailure P decided None = HoldsThroughout P decided
IsFirstFailure P decided (Some atom) = IsLeastFailure P decided atom
