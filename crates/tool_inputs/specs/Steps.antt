-- The steps of the reply of a command. At each step, the command stops with a reply or continues.
use Rattle.std.specs.Prelude.{◌≡◌, ◌⊎◌, ℕ, List, Option, Some, Ok}
use Rattle.kat_model.specs.Problems.{ProblemParts}
use Rattle.kat_io.specs.KnownContent.{KnownContent}
use Rattle.kat_io.specs.Outside.{FaultCounted}
use Rattle.certificate.specs.declared.evidence.Evidence.{Evidence}
use Rattle.kat_report.specs.InputLines.{unread_line, words_line}
use Rattle.while_lang.specs.Files.{FileParts}
use Rattle.text_parser.specs.declared.fault.TextFault.{TextFault}
use Rattle.problem_file.specs.Reads.{Reads, FirstFault}
use Rattle.abstraction.specs.Abstracts.{AbstractParts, abstract_of}
use Rattle.tool_inputs.specs.TextProblem.{IsFaultOf, HasNoAbstraction}
use Rattle.tool_inputs.specs.EvidenceBytes.{Spells, IsNoEvidence}

-- what a call saw of the shelf: the content under each name, the counts of faults before and after the call, and the
-- name that failed last
pub record ShelfUse : Type 0 where
  pub content : List ℕ → KnownContent
  pub before : ℕ
  pub now : ℕ
  pub last : Option (List ℕ)

abbrev pub shelf_use : (List ℕ → KnownContent) → ℕ → ℕ → Option (List ℕ) → ShelfUse
shelf_use content before now last = record { content = content; before = before; now = now; last = last }

-- the possible replies, each a status with its output
abbrev pub ReplySpec : Type 1
ReplySpec = ℕ → List ℕ → Type 0

-- a refusal whose line satisfies `IsLine`
abbrev pub IsRefusal : (List ℕ → Type 0) → ReplySpec
IsRefusal IsLine status output = (status ≡ 2) × IsLine output

-- words that do not fit the file, for this reason, are refused
pub record HasUnfitWords (Reason : Type 0) (status : ℕ) (output : List ℕ) : Type 0 where
  pub unfit : Reason
  pub has_status : status ≡ 7
  pub printed : output ≡ words_line

-- the shelf failed in this call, on this file
abbrev pub FailsOn : ShelfUse → List ℕ → Type 0
FailsOn s file = FaultCounted s.before s.now × (s.last ≡ Some file)

-- the shelf failed on this file, and the line that names the file is printed
pub record HasFailedOn (s : ShelfUse) (file : List ℕ) (status : ℕ) (output : List ℕ) : Type 0 where
  pub fails : FailsOn s file
  pub has_status : status ≡ 4
  pub printed : output ≡ unread_line file

-- a text is read: it has a first fault, or the command continues with its value
abbrev pub ReadsAs : {X : Type 0} → (TextFault → Type 0) → (X → Type 0) → (X → ReplySpec) → ReplySpec
ReadsAs {X} Fails Denotes GoesOn status output = IsRefusal (IsFaultOf Fails) status output ⊎ ((x : X) × Denotes x × GoesOn x status output)

abbrev pub ReadsText : List ℕ → (FileParts → ReplySpec) → ReplySpec
ReadsText text GoesOn = ReadsAs (FirstFault text) (Reads text) GoesOn

-- a file is abstracted: it has no abstraction, or the command continues with its abstraction
abbrev pub AbstractsFile : FileParts → (AbstractParts → ReplySpec) → ReplySpec
AbstractsFile f GoesOn status output =
    IsRefusal (HasNoAbstraction f) status output ⊎ ((a : AbstractParts) × (abstract_of f ≡ Ok a) × GoesOn a status output)

-- the command continues with the question of a file, the problem of its abstraction
abbrev pub PosesQuestion : FileParts → (ProblemParts → ReplySpec) → ReplySpec
PosesQuestion f GoesOn = AbstractsFile f (λ a. GoesOn a.problem)

-- a text is read, and the command continues with its question
abbrev pub PosesText : List ℕ → (ProblemParts → ReplySpec) → ReplySpec
PosesText text GoesOn = ReadsText text (λ f. PosesQuestion f GoesOn)

-- a text is asked for its question: it poses none, and the printed line gives the reason, or the command continues with
-- the question
abbrev pub PosesFor : {X : Type 0} → (List ℕ → Type 0) → (X → Type 0) → (X → ReplySpec) → ReplySpec
PosesFor {X} Declines Poses GoesOn status output = IsRefusal Declines status output ⊎ ((q : X) × Poses q × GoesOn q status output)

-- evidence is read: the bytes are not the text of evidence, or the command continues with the evidence
abbrev pub ReadsEvidence : List ℕ → (Evidence → ReplySpec) → ReplySpec
ReadsEvidence bytes GoesOn status output = IsRefusal (IsNoEvidence bytes) status output ⊎ ((e : Evidence) × Spells bytes e × GoesOn e status output)
