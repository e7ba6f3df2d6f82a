-- The limit on the number of pairs that a walk without tests may list.
use Rattle.std.specs.Prelude.{ℕ, if◌then◌else◌, Option, Some, None}
use Rattle.kat_model.specs.Problems.{ProblemParts}
use Rattle.certificate.specs.Decisions.{has_short, untested_limit}

-- there is a limit if some hypothesis is short
abbrev pub limit_of : ProblemParts → Option ℕ
limit_of q = if has_short q then Some untested_limit else None
