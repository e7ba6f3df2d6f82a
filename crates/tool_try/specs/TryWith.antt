-- `try` FILE TURNS EVIDENCE: its reply to a text and evidence of a difference. The stores from which the string can be
-- followed are tried first.
use Rattle.std.specs.Prelude.{◌≡◌, ◌⊎◌, ◌↔◌, ℕ, List, ◌++◌, Some, Ok}
use Rattle.kat_model.specs.Problems.{ProblemParts}
use Rattle.kat_model.specs.Stores.{Store}
use Rattle.kat_model.specs.Strings.{GuardedString}
use Rattle.string_tables.specs.Tables.{Refutes}
use Rattle.while_lang.specs.Files.{FileParts}
use Rattle.problem_file.specs.Reads.{Reads}
use Rattle.while_lang.specs.Concrete.{IsConcrete}
use Rattle.abstraction.specs.Abstracts.{AbstractParts, abstract_of}
use Rattle.certificate.specs.Certs.{CertParts}
use Rattle.certificate.specs.Faults.{line_fault}
use Rattle.certificate.specs.declared.evidence.Evidence.{Evidence}
use Rattle.certificate.specs.declared.evidence.Evidence.TheVariants.{Equal, Different}
use Rattle.certificate.specs.declared.evidence.EvidenceFault.{EvidenceFault}
use Rattle.cert_checker.specs.declared.answer.Reason.{Reason}
use Rattle.cert_checker.specs.Answers.{IsFoundBy}
use Rattle.kat_report.specs.Reasons.{reason_line, no_string_line}
use Rattle.store_trials.specs.Following.{followers}
use Rattle.tool_inputs.specs.TextProblem.{IsFaulty}
use Rattle.tool_inputs.specs.EvidenceBytes.{Spells}
use Rattle.tool_inputs.specs.Steps.{ReplySpec, ReadsText, AbstractsFile, ReadsEvidence}
use Rattle.tool_try.specs.TryTexts.{not_concrete_line}
use Rattle.tool_try.specs.Try.{TakesFile, AreTrialStores, HasTried, TrialHeadline}

-- the string does not refute the problem, and the first reason is printed
pub record IsNoDifference (q : ProblemParts) (x : GuardedString) (status : ℕ) (output : List ℕ) : Type 0 where
  pub fails : Refutes q x → ⊥
  pub reason : Reason
  pub first : IsFoundBy q (Different x) reason
  pub has_status : status ≡ 3
  pub printed : output ≡ reason_line reason

-- the string refutes the problem, and the goal is tried first on the stores from which the string can be followed
pub record TriesFollowing (f : FileParts) (a : AbstractParts) (turns : ℕ) (x : GuardedString) (status : ℕ) (output : List ℕ) : Type 0 where
  pub refutes : Refutes a.problem x
  pub stores : List Store
  pub are_stores : AreTrialStores f stores
  pub tried : HasTried f turns (followers a x stores ++ stores) status output

-- the reply to a file with its abstraction, and evidence; a certificate is not a string
abbrev pub TriesEvidence : FileParts → AbstractParts → ℕ → Evidence → ReplySpec
TriesEvidence f a turns (Equal c) status output = (status ≡ 3) × (output ≡ no_string_line)
TriesEvidence f a turns (Different x) status output = IsNoDifference a.problem x status output ⊎ TriesFollowing f a turns x status output

-- the steps of the reply to a file with its abstraction and bytes, and to two texts
abbrev pub TriesBytes : ℕ → FileParts → AbstractParts → List ℕ → ReplySpec
TriesBytes turns f a bytes = ReadsEvidence bytes (TriesEvidence f a turns)

abbrev pub TriesTexts : ℕ → List ℕ → List ℕ → ReplySpec
TriesTexts turns text bytes =
    ReadsText text (λ f. TakesFile (IsConcrete f) not_concrete_line (AbstractsFile f (λ a. TriesBytes turns f a bytes)))

-- The status is 2 exactly when the bytes are not the text of evidence, and 3 exactly when they are the text of a
-- certificate, or of a string that does not refute the question. Otherwise the goal was tried, first on the stores from
-- which the string can be followed.
pub record TryWithHeadline (turns : ℕ) (bytes : List ℕ) (f : FileParts) (a : AbstractParts) (status : ℕ) (output : List ℕ) : Type 0 where
  pub answers : (status ≡ 0) ⊎ ((status ≡ 1) ⊎ ((status ≡ 2) ⊎ (status ≡ 3)))
  pub faulty : (status ≡ 2) ↔ ((fault : EvidenceFault) × (line_fault bytes ≡ Some fault))
  pub rejected : (status ≡ 3) ↔ (((c : CertParts) × Spells bytes (Equal c)) ⊎ ((x : GuardedString) × Spells bytes (Different x) × (Refutes a.problem x → ⊥)))
  pub tried : (x : GuardedString) → Spells bytes (Different x) → Refutes a.problem x
      → (stores : List Store) × AreTrialStores f stores × TrialHeadline f turns (followers a x stores ++ stores) status output

-- What a reply of `try` with evidence says about its text and the bytes of the evidence. The headline holds for a
-- concrete file and its abstraction. A text that is not a file, and a file that is not concrete, is refused with its
-- line.
pub record TryWithReply (turns : ℕ) (text bytes : List ℕ) (status : ℕ) (output : List ℕ) : Type 0 where
  pub replies : TriesTexts turns text bytes status output
  pub headline : (f : FileParts) (a : AbstractParts) → Reads text f → IsConcrete f → abstract_of f ≡ Ok a → TryWithHeadline turns bytes f a status output
  pub unfit : (f : FileParts) → Reads text f → (IsConcrete f → ⊥) → (status ≡ 2) × (output ≡ not_concrete_line)
  pub declined : (line : List ℕ) → IsFaulty text line → (status ≡ 2) × (output ≡ line)
