-- The undecided tests that decide whether two tests are both true.
use Rattle.std.specs.Prelude.{ℕ, ◌||◌, if◌then◌else◌, Option, Some, None}
use Rattle.cert_checker.specs.Cases.{known_and, truly}
use Rattle.cert_checker.specs.declared.known.Truth.{Truth}
use Rattle.cert_checker.specs.declared.known.Truth.TheVariants.{Known, Undecided}

-- the test that an unknown value depends on
abbrev pub undecided_in : Truth → Option ℕ
undecided_in (Known b) = None
undecided_in (Undecided k) = Some k

-- the test that alone decides whether both are true: one is true, and the other depends on the test
abbrev pub tied_by : Truth → Truth → Option ℕ
tied_by x y = if truly x then undecided_in y else (if truly y then undecided_in x else None)

-- a test on which it depends whether both are true, if neither is known to be true
abbrev pub loose_by : Truth → Truth → Option ℕ
loose_by x y = if truly x || truly y then None else undecided_in (known_and x y)
