-- `decide`: its reply to a text, and what it says about the question.
use Rattle.std.specs.Prelude.{◌≡◌, ◌≤◌, ◌+◌, ◌*◌, ◌⊎◌, ◌↔◌, ℕ, List, [], length, Result, Ok, Err}
use Rattle.kat_model.specs.Trees.{acts}
use Rattle.kat_model.specs.Guarded.{IsGuarded}
use Rattle.kat_model.specs.Problems.{ProblemParts}
use Rattle.kat_model.specs.Relations.{Same}
use Rattle.kat_model.specs.Strings.{GuardedString}
use Rattle.while_lang.specs.Files.{FileParts}
use Rattle.problem_file.specs.Reads.{Reads}
use Rattle.while_lang.specs.Concrete.{IsConcrete, Agrees}
use Rattle.abstraction.specs.Abstracts.{AbstractParts, abstract_of}
use Rattle.abstraction.specs.Readings.{Reading, KeepsStated, GoalHoldsBy}
use Rattle.abstraction.specs.declared.fault.AbstractFault.{AbstractFault}
use Rattle.certificate.specs.Certs.{CertParts}
use Rattle.certificate.specs.Accepted.{set_pairs, IsAccepted}
use Rattle.certificate.specs.declared.evidence.Evidence.TheVariants.{Equal, Different}
use Rattle.certificate.specs.Decisions.{IsAnswerCert, IsShortest}
use Rattle.kat_laws.specs.Models.{SameInModels}
use Rattle.kat_laws.specs.SmallStrings.{IsSmall}
use Rattle.kat_axioms.specs.Laws.{HasChain}
use Rattle.kat_report.specs.AbstractRefusals.{abstract_fault_line}
use Rattle.tool_inputs.specs.FileProblem.{Poses}
use Rattle.tool_inputs.specs.TextProblem.{HasNoProblem}
use Rattle.tool_inputs.specs.EvidenceBytes.{Spells}
use Rattle.tool_inputs.specs.StoreAnswers.{IsLimitLine, ProblemSatisfies}
use Rattle.tool_inputs.specs.Steps.{ReplySpec, PosesText}
use Rattle.tool_decide.specs.SmallCerts.{IsSmallCert}

-- Both sides denote one relation in every table that satisfies the hypotheses, a chain of equations leads from one side
-- to the other, and an accepted certificate is printed. No pair of it is redundant; or, only if some hypothesis is short,
-- its pairs are under tests. It has few pairs if both sides are guarded and there are no hypotheses.
pub record IsEqual (q : ProblemParts) (output : List ℕ) : Type 0 where
  pub same : Same q
  pub chain : HasChain q
  pub cert : CertParts
  pub answer : IsAnswerCert q cert
  pub few : q.hyps ≡ [] → IsGuarded q.left → IsGuarded q.right → length (set_pairs cert) ≤ (acts q.left + 2) * (acts q.right + 2)
  pub printed : Spells output (Equal cert)

-- the sides do not denote one relation, and a shortest string that refutes the problem is printed
pub record IsDifferent (q : ProblemParts) (output : List ℕ) : Type 0 where
  pub differ : Same q → ⊥
  pub string : GuardedString
  pub shortest : IsShortest q string
  pub printed : Spells output (Different string)

-- the reply to a problem: each status with its cause
abbrev pub IsDecided : ProblemParts → ReplySpec
IsDecided q status output = ((status ≡ 0) × IsEqual q output) ⊎ ((status ≡ 1) × IsDifferent q output)

-- the steps of the reply to a text
abbrev pub DecidesText : List ℕ → ReplySpec
DecidesText text = PosesText text IsDecided

-- The status is 0 exactly when both sides denote one relation in every table that satisfies the hypotheses; then the
-- output spells an accepted certificate. It is 1 exactly when they do not; then the output spells a shortest string that
-- refutes the question. So `check` accepts the output, whatever wrote it. Both sides denote one relation in every table
-- exactly when they do in every model that satisfies the hypotheses whose states are natural numbers, finitely or
-- infinitely many, and whose tests and actions are decidable relations on them; and exactly when a chain of equations
-- leads from one side to the other by the axioms of Kleene algebra with tests and the hypotheses. A printed certificate
-- and a shortest string are small.
pub record Headline (q : ProblemParts) (status : ℕ) (output : List ℕ) : Type 0 where
  pub answers : (status ≡ 0) ⊎ (status ≡ 1)
  pub equal : (status ≡ 0) ↔ Same q
  pub models : (status ≡ 0) ↔ SameInModels q
  pub chains : (status ≡ 0) ↔ HasChain q
  pub different : (status ≡ 1) ↔ (Same q → ⊥)
  pub certificate : status ≡ 0 → (c : CertParts) × IsAccepted q c × IsSmallCert q c × Spells output (Equal c)
  pub string : status ≡ 1 → (x : GuardedString) × IsShortest q x × IsSmall q x × Spells output (Different x)

-- The answer to the plainest text of a goal about programs. The status is 0 exactly when both sides of the abstraction are
-- the same, 1 exactly when they are not, and 2 exactly when there is no abstraction; then the line names the exceeded
-- limit. With an abstraction the headline holds for its problem, so with 0 and 1 the output spells evidence. If the status
-- is 0, the statement about stores is true. Status 1 says nothing about stores.
pub record StoreHeadline (abstraction : Result AbstractParts AbstractFault) (Sentence : Type 0) (status : ℕ) (output : List ℕ) : Type 0 where
  pub answers : (status ≡ 0) ⊎ ((status ≡ 1) ⊎ (status ≡ 2))
  pub same : (status ≡ 0) ↔ ProblemSatisfies abstraction Same
  pub different : (status ≡ 1) ↔ ProblemSatisfies abstraction (λ q. Same q → ⊥)
  pub limit : (status ≡ 2) ↔ ((fault : AbstractFault) × (abstraction ≡ Err fault))
  pub headline : (a : AbstractParts) → abstraction ≡ Ok a → Headline a.problem status output
  pub equal : status ≡ 0 → Sentence
  pub refused : status ≡ 2 → IsLimitLine output
  pub line : (fault : AbstractFault) → abstraction ≡ Err fault → output ≡ abstract_fault_line fault

-- What a reply of `decide` says about its text. The headline holds for its question. If the status is 0, the goal of a
-- concrete file holds for all its stores, and the goal of any file holds for them under every reading of its declared
-- tests and actions that satisfies its stated hypotheses. A text without a question is refused with its line.
pub record DecideReply (text : List ℕ) (status : ℕ) (output : List ℕ) : Type 0 where
  pub replies : DecidesText text status output
  pub headline : (q : ProblemParts) → Poses text q → Headline q status output
  pub stores : (f : FileParts) → Reads text f → IsConcrete f → status ≡ 0 → Agrees f
  pub readings : (f : FileParts) (a : AbstractParts) (r : Reading) → Reads text f → abstract_of f ≡ Ok a → KeepsStated f a r → status ≡ 0 → GoalHoldsBy f a r f.goal
  pub declined : (line : List ℕ) → HasNoProblem text line → (status ≡ 2) × (output ≡ line)
