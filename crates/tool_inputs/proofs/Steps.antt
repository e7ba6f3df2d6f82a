-- Each step of a reply has one outcome: it continues only with its one value, or stops with one reply.
use Rattle.std.proofs.Common.{◌≡◌, ◌⊎◌, ◌<◌, ℕ, List, length, Some, Result, Ok, Err, inl, inr, ⊎_elim, refl, sym, subst, ap, ◌∙◌, arith}
use Rattle.kat_model.specs.declared.limits.TheConstants.{MAX_TEXT_BYTES}
use Rattle.kat_model.specs.Problems.{ProblemParts}
use Rattle.text_parser.specs.declared.fault.TextFault.{TextFault}
use Rattle.text_parser.specs.declared.fault.TextFault.TheVariants.{TooLong}
use Rattle.kat_report.specs.Refusals.{text_fault_line}
use Rattle.certificate.specs.declared.evidence.Evidence.{Evidence}
use Rattle.certificate.specs.declared.evidence.EvidenceFault.{EvidenceFault}
use Rattle.certificate.specs.Faults.{line_fault}
use Rattle.certificate.proofs.Exactness.{texts_differ_lem, is_text_or_faulty_lem}
use Rattle.while_lang.specs.Files.{FileParts}
use Rattle.problem_file.specs.FirstFaults.{too_long, no_text}
use Rattle.problem_file.specs.Reads.{Reads, FirstFault}
use Rattle.problem_file.specs.Laws.{HaveOneAnswer}
use Rattle.problem_file.proofs.OneAnswer.{have_one_answer}
use Rattle.abstraction.specs.Abstracts.{AbstractParts, abstract_of}
use Rattle.kat_report.specs.AbstractRefusals.{abstract_fault_line}
use Rattle.tool_inputs.specs.FileProblem.{Poses}
use Rattle.kat_report.specs.InputLines.{too_long_line}
use Rattle.tool_inputs.specs.TextProblem.{IsFaultOf, IsFaulty, HasNoAbstraction, HasNoProblem}
use Rattle.tool_inputs.specs.EvidenceBytes.{Spells}
use Rattle.tool_inputs.specs.Steps.{ReplySpec, ReadsAs, ReadsText, AbstractsFile, PosesQuestion, PosesText, ReadsEvidence}
use Rattle.tool_inputs.specs.Working.Questions.{not_both}

-- any two such replies have the same status
abbrev pub OneStatus : ReplySpec → Type 0
OneStatus IsSo = (a b : ℕ) (o p : List ℕ) → IsSo a o → IsSo b p → a ≡ b

-- ---- a text is read

-- for every kind of reading in which a text has one value or one first fault
module _ {X : Type 0} (Denotes : List ℕ → X → Type 0) (Fails : List ℕ → TextFault → Type 0) (one : HaveOneAnswer Denotes Fails) (text : List ℕ) (GoesOn : X → ReplySpec) where
  abbrev ReadsOne : ReplySpec
  ReadsOne = ReadsAs (Fails text) (Denotes text) GoesOn

  module _ (status : ℕ) (output : List ℕ) where
    pub denoted_one : (x : X) → Denotes text x → ReadsOne status output → GoesOn x status output
    denoted_one x denotes (inl r) = absurd (one.either text x r.1.fault denotes r.1.first)
    denoted_one x denotes (inr g) = subst (λ y. GoesOn y status output) (one.values text g.0 x g.1 denotes) g.2

    pub faulty_one : (line : List ℕ) → IsFaultOf (Fails text) line → ReadsOne status output → (status ≡ 2) × (output ≡ line)
    faulty_one line f (inl r) = (r.0, r.1.printed ∙ ap text_fault_line (one.faults text r.1.fault f.fault r.1.first f.first) ∙ sym f.printed)
    faulty_one line f (inr g) = absurd (one.either text g.0 f.fault g.1 f.first)

  pub read_once : ((x : X) → OneStatus (GoesOn x)) → OneStatus ReadsOne
  read_once once a b o p (inl r) y = r.0 ∙ sym (faulty_one b p o r.1 y).0
  read_once once a b o p (inr g) y = once g.0 a b o p g.2 (denoted_one b p g.0 g.1 y)

-- a text of a file with one goal
module _ (text : List ℕ) (GoesOn : FileParts → ReplySpec) (status : ℕ) (output : List ℕ) where
  pub reads_denoted : (f : FileParts) → Reads text f → ReadsText text GoesOn status output → GoesOn f status output
  reads_denoted = denoted_one Reads FirstFault have_one_answer text GoesOn status output

  pub reads_faulty : (line : List ℕ) → IsFaulty text line → ReadsText text GoesOn status output → (status ≡ 2) × (output ≡ line)
  reads_faulty = faulty_one Reads FirstFault have_one_answer text GoesOn status output

pub reads_once : (text : List ℕ) (GoesOn : FileParts → ReplySpec) → ((s : FileParts) → OneStatus (GoesOn s)) → OneStatus (ReadsText text GoesOn)
reads_once = read_once Reads FirstFault have_one_answer

-- ---- a file is abstracted

-- a result is one value or one error
module _ {X Y : Type 0} (r : Result X Y) where
  pub one_value : (x y : X) → r ≡ Ok x → r ≡ Ok y → x ≡ y
  one_value x y e h = let both : Ok x ≡ Ok y = sym e ∙ h in cc

  one_error : (x y : Y) → r ≡ Err x → r ≡ Err y → x ≡ y
  one_error x y e h = let both : Err x ≡ Err y = sym e ∙ h in cc

module _ (f : FileParts) where
  pub one_line : (a b : List ℕ) → HasNoAbstraction f a → HasNoAbstraction f b → a ≡ b
  one_line a b x y = x.printed ∙ ap abstract_fault_line (one_error (abstract_of f) x.fault y.fault x.has_none y.has_none) ∙ sym y.printed

  module _ (GoesOn : AbstractParts → ReplySpec) (status : ℕ) (output : List ℕ) where
    pub abstracts_as : (a : AbstractParts) → abstract_of f ≡ Ok a → AbstractsFile f GoesOn status output → GoesOn a status output
    abstracts_as a is (inl r) = absurd (not_both (abstract_of f) a r.1.fault is r.1.has_none)
    abstracts_as a is (inr g) = subst (λ x. GoesOn x status output) (one_value (abstract_of f) g.0 a g.1 is) g.2

    pub abstracts_none : (line : List ℕ) → HasNoAbstraction f line → AbstractsFile f GoesOn status output → (status ≡ 2) × (output ≡ line)
    abstracts_none line n (inl r) = (r.0, one_line output line r.1 n)
    abstracts_none line n (inr g) = absurd (not_both (abstract_of f) g.0 n.fault g.1 n.has_none)

pub abstracts_once : (f : FileParts) (GoesOn : AbstractParts → ReplySpec) → ((a : AbstractParts) → OneStatus (GoesOn a)) → OneStatus (AbstractsFile f GoesOn)
abstracts_once f GoesOn once a b o p (inl r) y = r.0 ∙ sym (abstracts_none f GoesOn b p o r.1 y).0
abstracts_once f GoesOn once a b o p (inr g) y = once g.0 a b o p g.2 (abstracts_as f GoesOn b p g.0 g.1 y)

-- ---- a text and its question

-- the question of a text is the question of its one file
pub text_poses : (text : List ℕ) (GoesOn : ProblemParts → ReplySpec) (status : ℕ) (output : List ℕ) (q : ProblemParts) → Poses text q → PosesText text GoesOn status output → GoesOn q status output
text_poses text GoesOn status output q x r =
    subst (λ p. GoesOn p status output) (sym x.question)
    (abstracts_as x.file (λ a. GoesOn a.problem) status output x.abstract x.is_abstract (reads_denoted text (λ f. PosesQuestion f GoesOn) status output x.file x.reads r))

-- a step that abstracts a text that poses no problem
pub abstracted_none : (text : List ℕ) (GoesOn : FileParts → AbstractParts → ReplySpec) (status : ℕ) (output line : List ℕ) → HasNoProblem text line → ReadsText text (λ f. AbstractsFile f (GoesOn f)) status output → (status ≡ 2) × (output ≡ line)
abstracted_none text GoesOn status output line (inl fault) r = reads_faulty text (λ f. AbstractsFile f (GoesOn f)) status output line fault r
abstracted_none text GoesOn status output line (inr h) r =
    abstracts_none h.0 (GoesOn h.0) status output line h.2 (reads_denoted text (λ f. AbstractsFile f (GoesOn f)) status output h.0 h.1 r)

pub text_once : (text : List ℕ) (GoesOn : ProblemParts → ReplySpec) → ((q : ProblemParts) → OneStatus (GoesOn q)) → OneStatus (PosesText text GoesOn)
text_once text GoesOn once = reads_once text (λ f. PosesQuestion f GoesOn) (λ f. abstracts_once f (λ a. GoesOn a.problem) (λ a. once a.problem))

-- the status of a step is below 4
pub small_status : (status : ℕ) → (status ≡ 0) ⊎ ((status ≡ 1) ⊎ ((status ≡ 2) ⊎ (status ≡ 3))) → status < 4
small_status status h = grind (arith, h)

pub reads_small : {X : Type 0} (Denotes : X → Type 0) (Fails : TextFault → Type 0) (GoesOn : X → ReplySpec) → ((x : X) (status : ℕ) (output : List ℕ) → Denotes x → GoesOn x status output → status < 4) → (status : ℕ) (output : List ℕ) → ReadsAs Fails Denotes GoesOn status output → status < 4
reads_small Denotes Fails GoesOn small status output (inl r) = small_status status (inr (inr (inl r.0)))
reads_small Denotes Fails GoesOn small status output (inr (x, denotes, g)) = small x status output denotes g

pub abstracts_small : (f : FileParts) (GoesOn : AbstractParts → ReplySpec) → ((a : AbstractParts) (status : ℕ) (output : List ℕ) → GoesOn a status output → status < 4) → (status : ℕ) (output : List ℕ) → AbstractsFile f GoesOn status output → status < 4
abstracts_small f GoesOn small status output (inl r) = small_status status (inr (inr (inl r.0)))
abstracts_small f GoesOn small status output (inr (a, is, g)) = small a status output g

pub text_small : (text : List ℕ) (GoesOn : ProblemParts → ReplySpec) → ((q : ProblemParts) (status : ℕ) (output : List ℕ) → GoesOn q status output → status < 4) → (status : ℕ) (output : List ℕ) → PosesText text GoesOn status output → status < 4
text_small text GoesOn small =
    reads_small (Reads text) (FirstFault text) (λ f. PosesQuestion f GoesOn) (λ f status output reads r. abstracts_small f (λ a. GoesOn a.problem) (λ a. small a.problem) status output r)

-- a text that is too long is refused with its line
abbrev pub IsLongFault : (List ℕ → TextFault → Type 0) → Type 0
IsLongFault Fails = (text : List ℕ) → MAX_TEXT_BYTES < length text → Fails text TooLong

pub reads_long : {X : Type 0} (Denotes : List ℕ → X → Type 0) (Fails : List ℕ → TextFault → Type 0) → IsLongFault Fails → (text : List ℕ) (GoesOn : X → ReplySpec) → MAX_TEXT_BYTES < length text → ReadsAs (Fails text) (Denotes text) GoesOn 2 too_long_line
reads_long Denotes Fails long text GoesOn past = inl (refl, record { fault = TooLong; first = long text past; printed = refl })

pub text_long : (text : List ℕ) (GoesOn : FileParts → ReplySpec) → MAX_TEXT_BYTES < length text → ReadsText text GoesOn 2 too_long_line
text_long text GoesOn past = reads_long Reads FirstFault (λ t longer. no_text (too_long refl longer)) text GoesOn past

-- ---- evidence is read

module _ (bytes : List ℕ) where
  spelled_same : (e f : Evidence) → Spells bytes e → Spells bytes f → e ≡ f
  spelled_same e f s t = texts_differ_lem e f s.evidence t.evidence (sym s.text ∙ t.text)

  spelled_faultless : (e : Evidence) (fault : EvidenceFault) → Spells bytes e → line_fault bytes ≡ Some fault → ⊥
  spelled_faultless e fault s f = ⊎_elim (λ h. h.1 (fault, f)) (λ h. h.0 (e, s.evidence, s.text)) (is_text_or_faulty_lem bytes)

  module _ (GoesOn : Evidence → ReplySpec) (status : ℕ) (output : List ℕ) where
    pub reads_spelled : (e : Evidence) → Spells bytes e → ReadsEvidence bytes GoesOn status output → GoesOn e status output
    reads_spelled e s (inl r) = absurd (spelled_faultless e r.1.fault s r.1.first)
    reads_spelled e s (inr g) = subst (λ f. GoesOn f status output) (spelled_same g.0 e g.1 s) g.2

    pub reads_no_evidence : (fault : EvidenceFault) → line_fault bytes ≡ Some fault → ReadsEvidence bytes GoesOn status output → status ≡ 2
    reads_no_evidence fault f (inl r) = r.0
    reads_no_evidence fault f (inr g) = absurd (spelled_faultless g.0 fault g.1 f)

  pub reads_evidence_once : (GoesOn : Evidence → ReplySpec) → ((e : Evidence) → OneStatus (GoesOn e)) → OneStatus (ReadsEvidence bytes GoesOn)
  reads_evidence_once GoesOn once a b o p (inl r) y = r.0 ∙ sym (reads_no_evidence GoesOn b p r.1.fault r.1.first y)
  reads_evidence_once GoesOn once a b o p (inr g) y = once g.0 a b o p g.2 (reads_spelled GoesOn b p g.0 g.1 y)
