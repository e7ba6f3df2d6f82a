-- `explain`: its reply to a text and evidence, and what that says of the question.
use Rattle.std.specs.Prelude.{◌≡◌, ◌⊎◌, ◌↔◌, ℕ, List, Bool, Some, Ok}
use Rattle.kat_model.specs.Problems.{ProblemParts}
use Rattle.kat_model.specs.Relations.{Same}
use Rattle.kat_model.specs.Strings.{GuardedString}
use Rattle.string_tables.specs.Tables.{Refutes}
use Rattle.string_tables.specs.Findings.{IsFinding}
use Rattle.string_tables.specs.declared.finding.Finding.TheVariants.{Refutes as RefutesBy}
use Rattle.while_lang.specs.Files.{FileParts}
use Rattle.problem_file.specs.Reads.{Reads}
use Rattle.abstraction.specs.Abstracts.{AbstractParts, abstract_of}
use Rattle.certificate.specs.Certs.{CertParts}
use Rattle.certificate.specs.Accepted.{IsAccepted}
use Rattle.certificate.specs.Faults.{line_fault}
use Rattle.certificate.specs.declared.evidence.Evidence.{Evidence}
use Rattle.certificate.specs.declared.evidence.Evidence.TheVariants.{Equal, Different}
use Rattle.certificate.specs.declared.evidence.EvidenceFault.{EvidenceFault}
use Rattle.cert_checker.specs.declared.answer.Reason.{Reason}
use Rattle.cert_checker.specs.Answers.{Shows, IsFoundBy}
use Rattle.kat_report.specs.Reasons.{reason_line}
use Rattle.kat_report.specs.Refusals.{evidence_fault_line}
use Rattle.tool_inputs.specs.TextProblem.{HasNoProblem}
use Rattle.tool_inputs.specs.EvidenceBytes.{Spells}
use Rattle.tool_inputs.specs.Steps.{ReplySpec, ReadsText, AbstractsFile, ReadsEvidence}
use Rattle.tool_explain.specs.Differences.{ExplainsString}
use Rattle.tool_explain.specs.Used.{with_marked}
use Rattle.tool_explain.specs.Certificates.{certificate_text, ExplainsCertificate}

-- the output explains the evidence: a string by which side relates its ends, or a certificate
abbrev pub IsExplanation : FileParts → AbstractParts → Evidence → List ℕ → Type 0
IsExplanation f a (Equal c) output = ExplainsCertificate f a c output
IsExplanation f a (Different x) output = (left : Bool) × IsFinding a.problem x (RefutesBy left) × ExplainsString f a x left output

-- the evidence shows what it says, and is explained
pub record IsExplaining (f : FileParts) (a : AbstractParts) (e : Evidence) (status : ℕ) (output : List ℕ) : Type 0 where
  pub shows : Shows a.problem e
  pub has_status : status ≡ 0
  pub explains : IsExplanation f a e output

-- the evidence does not show its claim, and the first reason is printed
pub record IsDoubting (q : ProblemParts) (e : Evidence) (status : ℕ) (output : List ℕ) : Type 0 where
  pub fails : Shows q e → ⊥
  pub reason : Reason
  pub first : IsFoundBy q e reason
  pub has_status : status ≡ 3
  pub printed : output ≡ reason_line reason

-- the reply to a file with its abstraction, and evidence
abbrev pub IsExplained : FileParts → AbstractParts → Evidence → ReplySpec
IsExplained f a e status output = IsExplaining f a e status output ⊎ IsDoubting a.problem e status output

-- the steps of the reply to a file and bytes, and to two texts
abbrev pub ExplainsBytes : FileParts → AbstractParts → List ℕ → ReplySpec
ExplainsBytes f a bytes = ReadsEvidence bytes (IsExplained f a)

abbrev pub ExplainsTexts : List ℕ → List ℕ → ReplySpec
ExplainsTexts text bytes = ReadsText text (λ f. AbstractsFile f (λ a. ExplainsBytes f a bytes))

-- The status is 0 exactly when the bytes are the text of evidence that shows what it says, 2 exactly when they are not
-- the text of evidence, and 3 exactly when they are the text of evidence that does not show its claim.
pub record ExplainStatus (bytes : List ℕ) (q : ProblemParts) (status : ℕ) : Type 0 where
  pub answers : (status ≡ 0) ⊎ ((status ≡ 2) ⊎ (status ≡ 3))
  pub shown : (status ≡ 0) ↔ ((e : Evidence) × Spells bytes e × Shows q e)
  pub faulty : (status ≡ 2) ↔ ((fault : EvidenceFault) × (line_fault bytes ≡ Some fault))
  pub rejected : (status ≡ 3) ↔ ((e : Evidence) × Spells bytes e × (Shows q e → ⊥))

-- The status is that of the evidence. A string that refutes the question is explained by the file and its abstraction,
-- and then the sides are not the same; an accepted certificate is described, and then they are, also under the listed
-- hypotheses alone. Otherwise the printed line gives the first fault of the bytes, or the first reason why their evidence
-- does not show its claim.
pub record ExplainHeadline (bytes : List ℕ) (f : FileParts) (a : AbstractParts) (status : ℕ) (output : List ℕ) : Type 0 where
  pub answers : ExplainStatus bytes a.problem status
  pub difference : (x : GuardedString) → Spells bytes (Different x) → Refutes a.problem x
      → (Same a.problem → ⊥) × ((left : Bool) × IsFinding a.problem x (RefutesBy left) × ExplainsString f a x left output)
  pub equality : (c : CertParts) → Spells bytes (Equal c) → IsAccepted a.problem c
      → Same a.problem × ((used : List Bool) × Same (with_marked a.problem used) × (output ≡ certificate_text f a c used))
  pub faulty_output : (fault : EvidenceFault) → line_fault bytes ≡ Some fault → output ≡ evidence_fault_line fault
  pub rejected_output : status ≡ 3 → (e : Evidence) × (reason : Reason) × Spells bytes e × IsFoundBy a.problem e reason × (output ≡ reason_line reason)

-- What a reply of `explain` says about its text and the bytes of evidence from any source. The headline holds for the
-- file and its abstraction. A text without a question is refused with its line.
pub record ExplainReply (text bytes : List ℕ) (status : ℕ) (output : List ℕ) : Type 0 where
  pub replies : ExplainsTexts text bytes status output
  pub headline : (f : FileParts) (a : AbstractParts) → Reads text f → abstract_of f ≡ Ok a → ExplainHeadline bytes f a status output
  pub declined : (line : List ℕ) → HasNoProblem text line → (status ≡ 2) × (output ≡ line)
