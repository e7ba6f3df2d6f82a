-- The evidence that a walk under tests returns for a problem.
use Rattle.kat_model.specs.Problems.{ProblemParts}
use Rattle.kat_model.specs.Relations.{Same}
use Rattle.certificate.specs.declared.evidence.Evidence.{Evidence}
use Rattle.certificate.specs.declared.evidence.Evidence.TheVariants.{Equal, Different}
use Rattle.certificate.specs.UnderTests.{IsConciseUnder}
use Rattle.certificate.specs.Decisions.{IsShortest}

-- a concise certificate of pairs under tests, or a shortest refuting string
abbrev pub IsDecisionUnder : ProblemParts → Evidence → Type 0
IsDecisionUnder q (Equal c) = Same q × IsConciseUnder q c
IsDecisionUnder q (Different x) = (Same q → ⊥) × IsShortest q x
