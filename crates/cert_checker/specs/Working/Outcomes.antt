-- What is known of a question in a case.
use Rattle.std.specs.Prelude.{Bool, List, Option}
use Rattle.kat_model.specs.Steps.{Atom}
use Rattle.cert_checker.specs.Cases.{Extends, IsOpen}
use Rattle.cert_checker.specs.declared.matching.Outcome.{Outcome}
use Rattle.cert_checker.specs.declared.matching.Outcome.TheVariants.{Holds, Fails, Undecided}
use Rattle.cert_checker.specs.LeastFailures.{HoldsThroughout}

-- what is known of a property at all values that extend the decided tests
abbrev pub IsOutcome : (Atom → Type 0) → List (Option Bool) → Outcome → Type 0
IsOutcome P decided Holds = HoldsThroughout P decided
IsOutcome P decided Fails = (atom : Atom) → Extends decided atom → P atom → ⊥
IsOutcome P decided (Undecided k) = IsOpen decided k
