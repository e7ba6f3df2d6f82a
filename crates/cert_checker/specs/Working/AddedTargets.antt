-- A target that is added to what is known of one side of a question.
use Rattle.std.specs.Prelude.{◌≡◌, ◌++◌, ◌∷◌, [], ℕ, Bool, true, false, if◌then◌else◌, List, Option, Some, None}
use Rattle.std.specs.Option.{option_or}
use Rattle.cert_checker.specs.declared.known.Truth.{Truth}
use Rattle.cert_checker.specs.declared.known.Truth.TheVariants.{Known, Undecided}
use Rattle.cert_checker.specs.declared.sides.TargetSide.{TargetSide}

-- adds a target that may be present: its guard depends on the test, if any; the surely present terms become `terms`; the
-- term is open unless `too` is true
pub record AddsPossible (too : Bool) (k : ℕ) (test : Option ℕ) (terms : List ℕ) (s z : TargetSide) : Type 0 where
  pub sure : z.sure.items ≡ terms
  pub alone : z.alone.items ≡ (if too then s.alone.items else s.alone.items ++ k ∷ [])
  pub alone_waits : z.alone_waits ≡ (if too then s.alone_waits else option_or s.alone_waits test)
  pub waits : z.waits ≡ option_or s.waits test

-- adds a target, by what is known of its guard
abbrev pub AddsTarget : Truth → Bool → ℕ → TargetSide → TargetSide → Type 0
AddsTarget (Known false) too k s z = z ≡ s
AddsTarget (Known true) too k s z = AddsPossible too k None (s.sure.items ++ k ∷ []) s z
AddsTarget (Undecided test) too k s z = AddsPossible too k (Some test) s.sure.items s z
