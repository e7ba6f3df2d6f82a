-- `outline` of a file: its reply to a text, and what it says about the question.
use Rattle.std.specs.Prelude.{◌≡◌, ◌⊎◌, ◌↔◌, ℕ, List, Ok}
use Rattle.kat_model.specs.Problems.{ProblemParts}
use Rattle.kat_model.specs.Relations.{Same}
use Rattle.while_lang.specs.Files.{FileParts}
use Rattle.problem_file.specs.Reads.{Reads}
use Rattle.while_lang.specs.Concrete.{IsConcrete, Agrees}
use Rattle.abstraction.specs.Abstracts.{AbstractParts, abstract_of}
use Rattle.abstraction.specs.Readings.{Reading, KeepsStated, GoalHoldsBy}
use Rattle.outline_rules.specs.NoteLists.{NotesParts}
use Rattle.outline_rules.specs.Tasks.{TaskParts}
use Rattle.outline_rules.specs.Follows.{Follows}
use Rattle.tool_inputs.specs.FileProblem.{Poses}
use Rattle.tool_inputs.specs.Steps.{ReplySpec}
use Rattle.tool_decide.specs.Decide.{IsDifferent}
use Rattle.tool_decide.specs.Triples.{HasTask, HasNoTask, AnswersTask, PosesNoTask}
use Rattle.tool_decide.specs.OutlineCheck.{SpellsNotes}

-- both sides denote one relation in every table that satisfies the hypotheses, and the text of notes that follow is
-- printed
pub record IsNoted (q : ProblemParts) (t : TaskParts) (output : List ℕ) : Type 0 where
  pub same : Same q
  pub notes : NotesParts
  pub follows : Follows q t notes
  pub printed : SpellsNotes output notes

-- the reply to a problem and a task: each status with its cause
abbrev pub IsOutlined : ProblemParts → TaskParts → ReplySpec
IsOutlined q t status output = ((status ≡ 0) × IsNoted q t output) ⊎ ((status ≡ 1) × IsDifferent q output)

-- the steps of the reply to a text
abbrev pub OutlinesText : List ℕ → ReplySpec
OutlinesText text = AnswersTask text IsOutlined

-- For the file of a text and its question. The status is 0 exactly when the goal is a triple of a program, all
-- hypotheses are simple, and both sides denote one relation in every table that satisfies the hypotheses; then the text
-- of notes that follow is printed. It is 1 exactly when the goal is such a triple, all hypotheses are simple, and the
-- sides do not denote one relation; then a string is printed as by `decide`. It is 2 exactly when the goal is not such
-- a triple or some hypothesis is not simple, with the line that gives the reason.
pub record OutlineHeadline (f : FileParts) (q : ProblemParts) (status : ℕ) (output : List ℕ) : Type 0 where
  pub answers : (status ≡ 0) ⊎ ((status ≡ 1) ⊎ (status ≡ 2))
  pub noted : (status ≡ 0) ↔ ((t : TaskParts) × HasTask f q t × Same q)
  pub notes : (t : TaskParts) → HasTask f q t → Same q → IsNoted q t output
  pub fails : (status ≡ 1) ↔ ((t : TaskParts) × HasTask f q t × (Same q → ⊥))
  pub string : status ≡ 1 → IsDifferent q output
  pub refused : (status ≡ 2) ↔ ((line : List ℕ) × HasNoTask f q line)
  pub refused_line : (line : List ℕ) → HasNoTask f q line → output ≡ line

-- What a reply of `outline` says about its text. The headline holds for its question. If the file is concrete and the
-- status is 0, its goal holds for all its stores; the goal of any file holds for them under every reading of its declared
-- tests and actions that satisfies its stated hypotheses. A text that asks no triple with simple hypotheses is refused
-- with its line.
pub record OutlineReply (text : List ℕ) (status : ℕ) (output : List ℕ) : Type 0 where
  pub replies : OutlinesText text status output
  pub headline : (q : ProblemParts) (poses : Poses text q) → OutlineHeadline poses.file q status output
  pub stores : (f : FileParts) → Reads text f → IsConcrete f → status ≡ 0 → Agrees f
  pub readings : (f : FileParts) (a : AbstractParts) (r : Reading) → Reads text f → abstract_of f ≡ Ok a → KeepsStated f a r → status ≡ 0 → GoalHoldsBy f a r f.goal
  pub declined : (line : List ℕ) → PosesNoTask text line → (status ≡ 2) × (output ≡ line)
