-- The laws of answers. Each is the contract of a function of the crate that does nothing.
use Rattle.std.specs.Prelude.{◌≡◌}
use Rattle.kat_model.specs.Problems.{ProblemParts}
use Rattle.kat_model.specs.Relations.{Same}
use Rattle.certificate.specs.declared.evidence.Evidence.{Evidence}
use Rattle.certificate.specs.declared.evidence.Evidence.TheVariants.{Equal, Different}
use Rattle.cert_checker.specs.declared.answer.Answer.{Answer}
use Rattle.cert_checker.specs.Answers.{Shows, IsAnswer}

-- the claim of evidence: a certificate says that both sides are the same, a string that they are not
abbrev pub Denotes : ProblemParts → Evidence → Type 0
Denotes q (Equal c) = Same q
Denotes q (Different x) = Same q → ⊥

-- accepted evidence has a true claim
abbrev pub ShownIsSo : Type 0
ShownIsSo = (q : ProblemParts) (e : Evidence) → Shows q e → Denotes q e

-- evidence has exactly one answer
abbrev pub HasOneAnswer : Type 0
HasOneAnswer = (q : ProblemParts) (e : Evidence) (a b : Answer) → IsAnswer q e a → IsAnswer q e b → a ≡ b
