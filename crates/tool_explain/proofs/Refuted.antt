-- The finding of a string that refutes a problem.
use Rattle.kat_model.specs.Problems.{ProblemParts}
use Rattle.kat_model.specs.Strings.{GuardedString}
use Rattle.string_tables.specs.Tables.{Refutes}
use Rattle.string_tables.specs.Findings.{IsFinding}
use Rattle.string_tables.specs.declared.finding.Finding.{Finding}
use Rattle.string_tables.specs.declared.finding.Finding.TheVariants.{Refutes as RefutesBy, Shape, HypBroken, EndsAgree}
use Rattle.string_tables.proofs.Ends.{not_refuted}
use Rattle.tool_explain.specs.Working.Findings.{is_left}

pub found_side : (q : ProblemParts) (x : GuardedString) (f : Finding) → Refutes q x → IsFinding q x f → IsFinding q x (RefutesBy (is_left f))
found_side q x (RefutesBy left) refutes found = found
found_side q x (Shape k) refutes found = absurd (not_refuted q x (Shape k) (λ b e. absurd cc) found refutes)
found_side q x (HypBroken h i j) refutes found = absurd (not_refuted q x (HypBroken h i j) (λ b e. absurd cc) found refutes)
found_side q x (EndsAgree both) refutes found = absurd (not_refuted q x (EndsAgree both) (λ b e. absurd cc) found refutes)
