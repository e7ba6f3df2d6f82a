-- `replay`: its reply to a text and evidence, and what that says of the string.
use Rattle.std.specs.Prelude.{◌≡◌, ◌⊎◌, ◌↔◌, ℕ, List, Some}
use Rattle.kat_model.specs.Problems.{ProblemParts}
use Rattle.kat_model.specs.Strings.{GuardedString, IsString}
use Rattle.string_tables.specs.Findings.{IsFinding}
use Rattle.string_tables.specs.declared.finding.Finding.{Finding}
use Rattle.string_tables.specs.declared.finding.Finding.TheVariants.{Refutes, Shape as Misfit, HypBroken, EndsAgree}
use Rattle.certificate.specs.Certs.{CertParts}
use Rattle.certificate.specs.Faults.{line_fault}
use Rattle.certificate.specs.declared.evidence.Evidence.{Evidence}
use Rattle.certificate.specs.declared.evidence.Evidence.TheVariants.{Equal, Different}
use Rattle.certificate.specs.declared.evidence.EvidenceFault.{EvidenceFault}
use Rattle.cert_checker.specs.declared.answer.Reason.TheVariants.{Shape}
use Rattle.kat_report.specs.Reasons.{reason_line, no_string_line}
use Rattle.kat_report.specs.Refusals.{evidence_fault_line}
use Rattle.kat_report.specs.Replays.{replay_text, Fits}
use Rattle.tool_inputs.specs.FileProblem.{Poses}
use Rattle.tool_inputs.specs.TextProblem.{HasNoProblem}
use Rattle.tool_inputs.specs.EvidenceBytes.{Spells}
use Rattle.tool_inputs.specs.Steps.{ReplySpec, PosesText, ReadsEvidence}

-- a string that fits is printed with its finding; for any other string, the position that does not fit is printed
abbrev pub IsGiven : GuardedString → Finding → ReplySpec
IsGiven x (Misfit k) status output = (status ≡ 3) × (output ≡ reason_line (Shape k))
IsGiven x (Refutes left) status output = (status ≡ 0) × (output ≡ replay_text x (Refutes left))
IsGiven x (HypBroken h i j) status output = (status ≡ 0) × (output ≡ replay_text x (HypBroken h i j))
IsGiven x (EndsAgree both) status output = (status ≡ 0) × (output ≡ replay_text x (EndsAgree both))

-- the reply to a problem and evidence
abbrev pub IsReplayed : ProblemParts → Evidence → ReplySpec
IsReplayed q (Equal c) status output = (status ≡ 3) × (output ≡ no_string_line)
IsReplayed q (Different x) status output = (f : Finding) × IsFinding q x f × IsGiven x f status output

-- the steps of the reply to a problem and bytes, and to two texts
abbrev pub ReplaysBytes : ProblemParts → List ℕ → ReplySpec
ReplaysBytes q bytes = ReadsEvidence bytes (IsReplayed q)

abbrev pub ReplaysTexts : List ℕ → List ℕ → ReplySpec
ReplaysTexts text bytes = PosesText text (λ q. ReplaysBytes q bytes)

-- the bytes are the text of a string that does not fit, or of a certificate
abbrev pub SpellsNoString : List ℕ → ProblemParts → Type 0
SpellsNoString bytes q =
    ((x : GuardedString) × Spells bytes (Different x) × (IsString q.tests q.actions x → ⊥)) ⊎ ((c : CertParts) × Spells bytes (Equal c))

-- The status is 0 exactly when the bytes are the text of a string that fits the question, 2 exactly when they are not
-- the text of evidence, and 3 exactly when they are the text of a string that does not fit, or of a certificate.
pub record ReplayStatus (bytes : List ℕ) (q : ProblemParts) (status : ℕ) : Type 0 where
  pub answers : (status ≡ 0) ⊎ ((status ≡ 2) ⊎ (status ≡ 3))
  pub fits : (status ≡ 0) ↔ ((x : GuardedString) × Spells bytes (Different x) × IsString q.tests q.actions x)
  pub faulty : (status ≡ 2) ↔ ((fault : EvidenceFault) × (line_fault bytes ≡ Some fault))
  pub misfit : (status ≡ 3) ↔ SpellsNoString bytes q

-- the line with the first position at which a string does not fit, or the line for a certificate
abbrev pub IsMisfitLine : List ℕ → ProblemParts → List ℕ → Type 0
IsMisfitLine bytes q output =
    ((x : GuardedString) × (k : ℕ) × Spells bytes (Different x) × IsFinding q x (Misfit k) × (output ≡ reason_line (Shape k)))
    ⊎ ((c : CertParts) × Spells bytes (Equal c) × (output ≡ no_string_line))

-- The status is that of the evidence. If it is 0, the string is printed with what it shows about the question. If it is 2
-- or 3, the printed line gives the first fault of the bytes, or the first position that does not fit.
pub record ReplayHeadline (evidence : List ℕ) (q : ProblemParts) (status : ℕ) (output : List ℕ) : Type 0 where
  pub answers : ReplayStatus evidence q status
  pub given : status ≡ 0 → (x : GuardedString) × (f : Finding) × Spells evidence (Different x) × IsFinding q x f × Fits f × (output ≡ replay_text x f)
  pub faulty_output : (fault : EvidenceFault) → line_fault evidence ≡ Some fault → output ≡ evidence_fault_line fault
  pub misfit_output : status ≡ 3 → IsMisfitLine evidence q output

-- What a reply of `replay` says about its text and the bytes of evidence. The headline holds for the question of the
-- text. A text without a question is refused with its line.
pub record ReplayReply (text bytes : List ℕ) (status : ℕ) (output : List ℕ) : Type 0 where
  pub replies : ReplaysTexts text bytes status output
  pub headline : (q : ProblemParts) → Poses text q → ReplayHeadline bytes q status output
  pub declined : (line : List ℕ) → HasNoProblem text line → (status ≡ 2) × (output ≡ line)
