-- `run`: its reply to a text and words, and what it says about the program.
use Rattle.std.specs.Prelude.{◌≡◌, ◌⊎◌, ◌↔◌, ℕ, List, None, Some}
use Rattle.kat_model.specs.Stores.{Store}
use Rattle.while_lang.specs.Programs.{ProgTree}
use Rattle.while_lang.specs.Runs.{HasOutcome}
use Rattle.while_lang.specs.declared.outcome.Outcome.{Outcome}
use Rattle.while_lang.specs.declared.outcome.Outcome.TheVariants.{Done, Stuck, More}
use Rattle.while_lang.specs.Files.{FileParts}
use Rattle.problem_file.specs.Reads.{Reads}
use Rattle.tool_inputs.specs.TextProblem.{IsFaulty}
use Rattle.tool_commands.specs.ProgramWords.{program_of}
use Rattle.tool_commands.specs.StoreWords.{store_of}
use Rattle.kat_report.specs.RunTexts.{outcome_line, stuck_line, more_line}
use Rattle.tool_inputs.specs.Steps.{ReplySpec, ReadsText, HasUnfitWords}
use Rattle.kat_report.specs.InputLines.{words_line}

-- the status of an outcome
abbrev pub outcome_status : Outcome → ℕ
outcome_status Done = 0
outcome_status Stuck = 1
outcome_status More = 1

-- PROG is a concrete program of the file, and STORE gives a store of it
pub record StartsRun (f : FileParts) (prog store : List ℕ) (p : ProgTree) (s : Store) : Type 0 where
  pub program : program_of f prog ≡ Some p
  pub values : store_of f store ≡ Some s

-- PROG names no program of the file, or one that is not concrete, or STORE gives no store of the file
abbrev pub StartsNoRun : FileParts → List ℕ → List ℕ → Type 0
StartsNoRun f prog store = (program_of f prog ≡ None) ⊎ (store_of f store ≡ None)

-- ---- the reply

-- the words are compared with the file: they do not fit, or the command continues with the program and the store
abbrev pub TakesWords : FileParts → List ℕ → List ℕ → (ProgTree → Store → ReplySpec) → ReplySpec
TakesWords f prog store GoesOn status output =
    HasUnfitWords (StartsNoRun f prog store) status output ⊎ ((p : ProgTree) × (s : Store) × StartsRun f prog store p s × GoesOn p s status output)

-- the program is run on the store, and its outcome is printed
pub record HasRun (f : FileParts) (turns : ℕ) (p : ProgTree) (s : Store) (status : ℕ) (output : List ℕ) : Type 0 where
  pub outcome : Outcome
  pub store : Store
  pub reached : HasOutcome f.width p s turns outcome store
  pub has_status : status ≡ outcome_status outcome
  pub printed : output ≡ outcome_line f.scope outcome store

-- the steps of the reply to a file, and to a text
abbrev pub RunsFile : FileParts → List ℕ → List ℕ → ℕ → ReplySpec
RunsFile f prog store turns = TakesWords f prog store (HasRun f turns)

abbrev pub RunsText : List ℕ → List ℕ → List ℕ → ℕ → ReplySpec
RunsText text prog store turns = ReadsText text (λ f. RunsFile f prog store turns)

-- ---- what it says

-- the words fit, and the program that they name has the outcome `o` in the store `t`, from the store that they give
pub record RunsTo (f : FileParts) (prog store : List ℕ) (turns : ℕ) (o : Outcome) (t : Store) : Type 0 where
  pub program : ProgTree
  pub start : Store
  pub fits : StartsRun f prog store program start
  pub reached : HasOutcome f.width program start turns o t

-- The status is 0 exactly when the program ends; then `done` and the store in which it ends are printed. It is 1
-- exactly when the program reaches an `abort`, an `assert` that fails, or a loop body with no turn left, with the line
-- of this outcome, and 7 exactly when the words do not fit.
pub record RunHeadline (f : FileParts) (prog store : List ℕ) (turns status : ℕ) (output : List ℕ) : Type 0 where
  pub answers : (status ≡ 0) ⊎ ((status ≡ 1) ⊎ (status ≡ 7))
  pub done : (status ≡ 0) ↔ ((t : Store) × RunsTo f prog store turns Done t)
  pub done_line : (t : Store) → RunsTo f prog store turns Done t → output ≡ outcome_line f.scope Done t
  pub stuck : ((status ≡ 1) × (output ≡ stuck_line)) ↔ ((t : Store) × RunsTo f prog store turns Stuck t)
  pub more : ((status ≡ 1) × (output ≡ more_line)) ↔ ((t : Store) × RunsTo f prog store turns More t)
  pub undone : status ≡ 1 → (output ≡ stuck_line) ⊎ (output ≡ more_line)
  pub unfit : (status ≡ 7) ↔ StartsNoRun f prog store
  pub unfit_line : status ≡ 7 → output ≡ words_line

-- the text is read as a file that the words do not fit
abbrev pub DoesNotFit : List ℕ → List ℕ → List ℕ → Type 0
DoesNotFit text prog store = (f : FileParts) × Reads text f × StartsNoRun f prog store

-- What a reply of `run` says about its text. The headline holds for the file that is read. A text that is not a file is
-- refused with its line.
pub record RunReply (text prog store : List ℕ) (turns status : ℕ) (output : List ℕ) : Type 0 where
  pub replies : RunsText text prog store turns status output
  pub headline : (f : FileParts) → Reads text f → RunHeadline f prog store turns status output
  pub declined : (line : List ℕ) → IsFaulty text line → (status ≡ 2) × (output ≡ line)
