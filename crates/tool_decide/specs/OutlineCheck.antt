-- `outline` of a file and notes: its reply to a text and notes, and what that says of the question.
use Rattle.std.specs.Prelude.{◌≡◌, ◌⊎◌, ◌↔◌, ℕ, List, Some, Ok}
use Rattle.kat_model.specs.Problems.{ProblemParts}
use Rattle.kat_model.specs.Relations.{Same}
use Rattle.while_lang.specs.Files.{FileParts}
use Rattle.problem_file.specs.Reads.{Reads}
use Rattle.while_lang.specs.Concrete.{IsConcrete, Agrees}
use Rattle.abstraction.specs.Abstracts.{AbstractParts, abstract_of}
use Rattle.abstraction.specs.Readings.{Reading, KeepsStated, GoalHoldsBy}
use Rattle.outline_rules.specs.NoteLists.{NotesParts}
use Rattle.outline_rules.specs.Texts.{text_of, AreNarrowNotes}
use Rattle.outline_rules.specs.Faults.{notes_fault}
use Rattle.outline_rules.specs.declared.fault.NotesFault.{NotesFault}
use Rattle.outline_rules.specs.declared.answer.NoteReason.{NoteReason}
use Rattle.outline_rules.specs.Tasks.{TaskParts}
use Rattle.outline_rules.specs.Follows.{Follows}
use Rattle.outline_rules.specs.Reasons.{IsFirstReason}
use Rattle.tool_inputs.specs.FileProblem.{Poses}
use Rattle.tool_inputs.specs.Steps.{ReplySpec, IsRefusal}
use Rattle.kat_report.specs.Acceptances.{accepted_outline_line}
use Rattle.kat_report.specs.OutlineLines.{notes_fault_line, note_reason_line}
use Rattle.tool_decide.specs.Triples.{HasTask, HasNoTask, AnswersTask, PosesNoTask}

-- the bytes are the text of these notes
pub record SpellsNotes (bytes : List ℕ) (ns : NotesParts) : Type 0 where
  pub narrow : AreNarrowNotes ns
  pub text : bytes ≡ text_of ns

-- the bytes are not the text of notes, and their first fault is printed
pub record IsNoNotes (bytes output : List ℕ) : Type 0 where
  pub fault : NotesFault
  pub first : notes_fault bytes ≡ Some fault
  pub printed : output ≡ notes_fault_line fault

-- notes are read: the bytes are not the text of notes, or the command continues with the notes
abbrev pub ReadsNotes : List ℕ → (NotesParts → ReplySpec) → ReplySpec
ReadsNotes bytes GoesOn status output = IsRefusal (IsNoNotes bytes) status output ⊎ ((ns : NotesParts) × SpellsNotes bytes ns × GoesOn ns status output)

-- the notes follow, so both sides are the same
pub record AreAccepted (q : ProblemParts) (t : TaskParts) (ns : NotesParts) (status : ℕ) (output : List ℕ) : Type 0 where
  pub follows : Follows q t ns
  pub same : Same q
  pub has_status : status ≡ 0
  pub printed : output ≡ accepted_outline_line

-- the notes do not follow, and the first reason is printed
pub record AreRejected (q : ProblemParts) (t : TaskParts) (ns : NotesParts) (status : ℕ) (output : List ℕ) : Type 0 where
  pub fails : Follows q t ns → ⊥
  pub reason : NoteReason
  pub first : IsFirstReason q t ns reason
  pub has_status : status ≡ 3
  pub printed : output ≡ note_reason_line reason

-- the reply to a problem, a task and notes
abbrev pub AreChecked : ProblemParts → TaskParts → NotesParts → ReplySpec
AreChecked q t ns status output = AreAccepted q t ns status output ⊎ AreRejected q t ns status output

-- the steps of the reply to bytes, a problem and a task, and to two texts
abbrev pub ChecksNotes : List ℕ → ProblemParts → TaskParts → ReplySpec
ChecksNotes bytes q t = ReadsNotes bytes (AreChecked q t)

abbrev pub ChecksNoteTexts : List ℕ → List ℕ → ReplySpec
ChecksNoteTexts text bytes = AnswersTask text (ChecksNotes bytes)

-- the question has no outlines, or the bytes are not the text of notes; the printed line gives the reason
abbrev pub HasNoNotes : FileParts → ProblemParts → List ℕ → List ℕ → Type 0
HasNoNotes f q bytes output = HasNoTask f q output ⊎ ((t : TaskParts) × HasTask f q t × IsNoNotes bytes output)

-- For the file of a text, its question, and bytes. The status is 0 exactly when the goal is a triple of a program, all
-- hypotheses are simple, and the bytes are the text of notes that follow; then both sides denote one relation in every
-- table that satisfies the hypotheses. It is 3 exactly when the goal is such a triple, all hypotheses are simple, and
-- the bytes are the text of notes that do not follow, with the first reason. It is 2 exactly when the goal is not such
-- a triple, some hypothesis is not simple, or the bytes are not the text of notes, with the line that gives the reason.
pub record NotesHeadline (bytes : List ℕ) (f : FileParts) (q : ProblemParts) (status : ℕ) (output : List ℕ) : Type 0 where
  pub answers : (status ≡ 0) ⊎ ((status ≡ 2) ⊎ (status ≡ 3))
  pub accepted : (status ≡ 0) ↔ ((t : TaskParts) × (ns : NotesParts) × HasTask f q t × SpellsNotes bytes ns × Follows q t ns)
  pub same : status ≡ 0 → Same q
  pub accepted_line : status ≡ 0 → output ≡ accepted_outline_line
  pub refused : (status ≡ 2) ↔ ((line : List ℕ) × HasNoNotes f q bytes line)
  pub refused_line : (line : List ℕ) → HasNoNotes f q bytes line → output ≡ line
  pub rejected : (status ≡ 3) ↔ ((t : TaskParts) × (ns : NotesParts) × HasTask f q t × SpellsNotes bytes ns × (Follows q t ns → ⊥))
  pub reason_line : (t : TaskParts) (ns : NotesParts) → HasTask f q t → SpellsNotes bytes ns → (Follows q t ns → ⊥) → AreRejected q t ns status output

-- What a reply of `outline` says about its text and the bytes of notes from any source. The headline holds for the
-- question of the text. If the file is concrete and the status is 0, its goal holds for all its stores; the goal of any
-- file holds for them under every reading of its declared tests and actions that satisfies its stated hypotheses. A text
-- that asks no triple with simple hypotheses is refused with its line.
pub record OutlineCheckReply (text bytes : List ℕ) (status : ℕ) (output : List ℕ) : Type 0 where
  pub replies : ChecksNoteTexts text bytes status output
  pub headline : (q : ProblemParts) (poses : Poses text q) → NotesHeadline bytes poses.file q status output
  pub stores : (f : FileParts) → Reads text f → IsConcrete f → status ≡ 0 → Agrees f
  pub readings : (f : FileParts) (a : AbstractParts) (r : Reading) → Reads text f → abstract_of f ≡ Ok a → KeepsStated f a r → status ≡ 0 → GoalHoldsBy f a r f.goal
  pub declined : (line : List ℕ) → PosesNoTask text line → (status ≡ 2) × (output ≡ line)
