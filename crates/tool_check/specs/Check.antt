-- `check`: its reply to a text and evidence, and what that says of the question.
use Rattle.std.specs.Prelude.{◌≡◌, ◌⊎◌, ◌↔◌, ℕ, List, Some, Ok}
use Rattle.kat_model.specs.Problems.{ProblemParts}
use Rattle.kat_model.specs.Relations.{Same}
use Rattle.kat_model.specs.Strings.{GuardedString}
use Rattle.string_tables.specs.Tables.{Refutes}
use Rattle.while_lang.specs.Files.{FileParts}
use Rattle.problem_file.specs.Reads.{Reads}
use Rattle.while_lang.specs.Concrete.{IsConcrete, Agrees}
use Rattle.abstraction.specs.Abstracts.{AbstractParts, abstract_of}
use Rattle.abstraction.specs.Readings.{Reading, KeepsStated, GoalHoldsBy}
use Rattle.certificate.specs.Certs.{CertParts}
use Rattle.certificate.specs.Accepted.{IsAccepted}
use Rattle.certificate.specs.Faults.{line_fault}
use Rattle.certificate.specs.declared.evidence.Evidence.{Evidence}
use Rattle.certificate.specs.declared.evidence.Evidence.TheVariants.{Equal, Different}
use Rattle.certificate.specs.declared.evidence.EvidenceFault.{EvidenceFault}
use Rattle.cert_checker.specs.declared.answer.Reason.{Reason}
use Rattle.cert_checker.specs.Answers.{Shows, IsFoundBy}
use Rattle.cert_checker.specs.Laws.{Denotes}
use Rattle.kat_report.specs.Acceptances.{accepted_line}
use Rattle.kat_report.specs.Reasons.{reason_line}
use Rattle.kat_report.specs.Refusals.{evidence_fault_line}
use Rattle.tool_inputs.specs.FileProblem.{Poses}
use Rattle.tool_inputs.specs.TextProblem.{HasNoProblem}
use Rattle.tool_inputs.specs.EvidenceBytes.{evidence_status, Spells}
use Rattle.tool_inputs.specs.Steps.{ReplySpec, PosesText, ReadsEvidence}

-- the evidence shows what it says, and so it is
pub record IsAccepting (q : ProblemParts) (e : Evidence) (status : ℕ) (output : List ℕ) : Type 0 where
  pub shows : Shows q e
  pub denotes : Denotes q e
  pub has_status : status ≡ evidence_status e
  pub printed : output ≡ accepted_line e

-- the evidence does not show its claim, and the first reason is printed
pub record IsRejecting (q : ProblemParts) (e : Evidence) (status : ℕ) (output : List ℕ) : Type 0 where
  pub fails : Shows q e → ⊥
  pub reason : Reason
  pub first : IsFoundBy q e reason
  pub has_status : status ≡ 3
  pub printed : output ≡ reason_line reason

-- the reply to a problem and evidence
abbrev pub IsChecked : ProblemParts → Evidence → ReplySpec
IsChecked q e status output = IsAccepting q e status output ⊎ IsRejecting q e status output

-- the steps of the reply to a problem and bytes, and to two texts
abbrev pub ChecksBytes : ProblemParts → List ℕ → ReplySpec
ChecksBytes q bytes = ReadsEvidence bytes (IsChecked q)

abbrev pub ChecksTexts : List ℕ → List ℕ → ReplySpec
ChecksTexts text bytes = PosesText text (λ q. ChecksBytes q bytes)

-- The status is 0 exactly when the bytes are the text of an accepted certificate, 1 exactly when they are the text of a
-- string that refutes the question, 2 exactly when they are not the text of evidence, and 3 exactly when they are the
-- text of evidence that does not show its claim.
pub record CheckStatus (bytes : List ℕ) (q : ProblemParts) (status : ℕ) : Type 0 where
  pub answers : (status ≡ 0) ⊎ ((status ≡ 1) ⊎ ((status ≡ 2) ⊎ (status ≡ 3)))
  pub equal : (status ≡ 0) ↔ ((c : CertParts) × Spells bytes (Equal c) × IsAccepted q c)
  pub different : (status ≡ 1) ↔ ((x : GuardedString) × Spells bytes (Different x) × Refutes q x)
  pub faulty : (status ≡ 2) ↔ ((fault : EvidenceFault) × (line_fault bytes ≡ Some fault))
  pub rejected : (status ≡ 3) ↔ ((e : Evidence) × Spells bytes e × (Shows q e → ⊥))

-- The status is that of the evidence. It is 0 only if the evidence is the text of an accepted certificate, so both
-- sides denote one relation. It is 1 only if the evidence is the text of a string that refutes the question, so they do
-- not. The printed line accepts the evidence, or gives the first fault of the bytes, or the first reason why their
-- evidence does not show its claim.
pub record CheckHeadline (evidence : List ℕ) (q : ProblemParts) (status : ℕ) (output : List ℕ) : Type 0 where
  pub answers : CheckStatus evidence q status
  pub equal : status ≡ 0 → (c : CertParts) × Spells evidence (Equal c) × IsAccepted q c × Same q
  pub different : status ≡ 1 → (x : GuardedString) × Spells evidence (Different x) × Refutes q x × (Same q → ⊥)
  pub accepted_output : (e : Evidence) → Spells evidence e → Shows q e → output ≡ accepted_line e
  pub faulty_output : (fault : EvidenceFault) → line_fault evidence ≡ Some fault → output ≡ evidence_fault_line fault
  pub rejected_output : status ≡ 3 → (e : Evidence) × (reason : Reason) × Spells evidence e × IsFoundBy q e reason × (output ≡ reason_line reason)

-- What a reply of `check` says about its text and the bytes of evidence from any source. The headline holds for the
-- question of the text. If the file is concrete and the status is 0, its goal holds for all its stores; the goal of any
-- file holds for them under every reading of its declared tests and actions that satisfies its stated hypotheses. A text
-- without a question is refused with its line.
pub record CheckReply (text bytes : List ℕ) (status : ℕ) (output : List ℕ) : Type 0 where
  pub replies : ChecksTexts text bytes status output
  pub headline : (q : ProblemParts) → Poses text q → CheckHeadline bytes q status output
  pub stores : (f : FileParts) → Reads text f → IsConcrete f → status ≡ 0 → Agrees f
  pub readings : (f : FileParts) (a : AbstractParts) (r : Reading) → Reads text f → abstract_of f ≡ Ok a → KeepsStated f a r → status ≡ 0 → GoalHoldsBy f a r f.goal
  pub declined : (line : List ℕ) → HasNoProblem text line → (status ≡ 2) × (output ≡ line)
