-- What is known of the targets of both sides of a question.
use Rattle.std.specs.Prelude.{◌≡◌, ◌⊎◌, ◌∷◌, [], ℕ, Bool, false, ◌||◌, nat_eq, if◌then◌else◌, List, Some}
use Rattle.std.specs.Option.{option_map_or, MatchOption}
use Rattle.std.specs.List.Sorted.{IsStrictlySortedBy}
use Rattle.std.specs.Map.{keys_of}
use Rattle.std.specs.Ordering.{nat_cmp}
use Rattle.kat_model.specs.Members.{Has}
use Rattle.cert_checker.specs.Targets.{guard_of}
use Rattle.cert_checker.specs.Cases.{known_of, truly, falsely}
use Rattle.cert_checker.specs.declared.known.Truth.{Truth}
use Rattle.cert_checker.specs.declared.known.Truth.TheVariants.{Known, Undecided as UndecidedBy}
use Rattle.cert_checker.specs.declared.sides.TargetSide.{TargetSide}
use Rattle.cert_checker.specs.declared.sides.TargetSides.{TargetSides}

-- the terms that are surely among the targets
abbrev pub sure_targets : List Truth → List (ℕ × ℕ) → List ℕ
sure_targets known [] = []
sure_targets known (e ∷ es) = if truly (known_of known e.1) then e.0 ∷ sure_targets known es else sure_targets known es

-- whether the term is surely among the targets
abbrev pub is_sure : List Truth → List (ℕ × ℕ) → ℕ → Bool
is_sure known es k = option_map_or (λ g. truly (known_of known g)) (guard_of es k) false

-- whether the term is surely among the targets wherever the given guard is true: it has the same guard, or its guard is
-- known to be true
abbrev pub has_too : List Truth → List (ℕ × ℕ) → ℕ → ℕ → Bool
has_too known es k g = option_map_or (λ h. nat_eq h g || truly (known_of known h)) (guard_of es k) false

-- the open terms: those that may be among the targets at an atom at which they are not among the others
abbrev pub open_targets : List Truth → List (ℕ × ℕ) → List (ℕ × ℕ) → List ℕ
open_targets known others [] = []
open_targets known others (e ∷ es) =
    if falsely (known_of known e.1) || has_too known others e.0 e.1 then open_targets known others es else e.0 ∷ open_targets known others es

-- each guard has a known value, and the guard of each of these terms has one
abbrev pub AreSettled : List Truth → List (ℕ × ℕ) → Type 0
AreSettled known es = (e : ℕ × ℕ) → Has es e → (b : Bool) × (known_of known e.1 ≡ Known b)

abbrev pub AreSettledAmong : List Truth → List (ℕ × ℕ) → List ℕ → Type 0
AreSettledAmong known es terms = (k g : ℕ) → Has terms k → guard_of es k ≡ Some g → (b : Bool) × (known_of known g ≡ Known b)

-- a guard of these targets depends on the undecided test
abbrev pub IsWaitedBy : List Truth → List (ℕ × ℕ) → ℕ → Type 0
IsWaitedBy known es k = (e : ℕ × ℕ) × Has es e × (known_of known e.1 ≡ UndecidedBy k)

-- a guard of one of two lists of targets depends on the undecided test
abbrev pub IsWaitedByOne : List Truth → List (ℕ × ℕ) → List (ℕ × ℕ) → ℕ → Type 0
IsWaitedByOne known left right k = IsWaitedBy known left k ⊎ IsWaitedBy known right k

-- what is known of the targets of one side, given those of the other: the numbers of the terms ascend; the lists are
-- the surely present terms and the open terms; without a given test, no guard of the open terms, or of all targets, is
-- undecided
pub record IsTargetSide (known : List Truth) (others es : List (ℕ × ℕ)) (s : TargetSide) : Type 0 where
  pub ascends : IsStrictlySortedBy nat_cmp (keys_of es)
  pub sure : s.sure.items ≡ sure_targets known es
  pub alone : s.alone.items ≡ open_targets known others es
  pub alone_waits : MatchOption s.alone_waits (AreSettledAmong known es (open_targets known others es)) (IsWaitedBy known es)
  pub waits : MatchOption s.waits (AreSettled known es) (IsWaitedBy known es)

pub record AreTargetSides (known : List Truth) (es fs : List (ℕ × ℕ)) (s : TargetSides) : Type 0 where
  pub left : IsTargetSide known fs es s.left
  pub right : IsTargetSide known es fs s.right
