-- The lines for what a check accepts.
use Rattle.std.specs.Prelude.{ℕ, List, codes}
use Rattle.certificate.specs.declared.evidence.Evidence.{Evidence}
use Rattle.certificate.specs.declared.evidence.Evidence.TheVariants.{Equal, Different}

-- for evidence
abbrev pub accepted_line : Evidence → List ℕ
accepted_line (Equal c) = codes "accepted equal\n"
accepted_line (Different x) = codes "accepted different\n"

-- for notes
abbrev pub accepted_outline_line : List ℕ
accepted_outline_line = codes "accepted outline\n"
