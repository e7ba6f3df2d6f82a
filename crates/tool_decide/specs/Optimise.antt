-- `optimise`: its reply to a text and a name, and what it says about the program.
use Rattle.std.specs.Prelude.{◌≡◌, ◌≤◌, ◌⊎◌, ◌↔◌, ℕ, List, length, Option, None, Some}
use Rattle.std.specs.Option.{option_map}
use Rattle.while_lang.specs.Programs.{ProgTree}
use Rattle.while_lang.specs.Files.{FileParts, prog_named}
use Rattle.problem_file.specs.Reads.{Reads}
use Rattle.optimiser_steps.specs.Logs.{LogLineParts, IsLog, IsFinished, HasStep}
use Rattle.optimiser_steps.specs.Meanings.{KeepsInTables, KeepsFromStores}
use Rattle.optimiser_steps.specs.declared.optimising.Ended.{Ended}
use Rattle.optimiser_steps.specs.declared.optimising.Ended.TheVariants.{Done, TurnLimit}
use Rattle.tool_inputs.specs.TextProblem.{IsFaulty}
use Rattle.tool_decide.specs.LogTexts.{optimised_text}
use Rattle.tool_inputs.specs.Steps.{ReplySpec, ReadsText, HasUnfitWords}
use Rattle.kat_report.specs.InputLines.{words_line}

-- the program of the file with this name
abbrev pub any_program_of : FileParts → List ℕ → Option ProgTree
any_program_of f name = option_map (λ p. p.tree) (prog_named f.scope f.progs name)

-- The log is a chain of at most `turns` first steps from one program to the other. It ended because no step is possible
-- any more, or at the limit while a step is still possible. The programs have the same meaning in the files for which
-- that is claimed.
pub record IsOptimised (f : FileParts) (p : ProgTree) (turns : ℕ) (log : List LogLineParts) (ended : Ended) (q : ProgTree) : Type 0 where
  pub is_log : IsLog f p log q
  pub within : length log ≤ turns
  pub done : (ended ≡ Done) ↔ IsFinished f q
  pub limit : (ended ≡ TurnLimit) ↔ ((length log ≡ turns) × HasStep f q)
  pub in_tables : KeepsInTables f p q
  pub from_stores : KeepsFromStores f p q

-- the log, its end and the resulting program are printed
pub record PrintsOptimised (f : FileParts) (name : List ℕ) (turns : ℕ) (p : ProgTree) (output : List ℕ) : Type 0 where
  pub log : List LogLineParts
  pub ended : Ended
  pub prog : ProgTree
  pub is_optimised : IsOptimised f p turns log ended prog
  pub printed : output ≡ optimised_text f.scope name log ended prog

-- ---- the reply

-- the steps of the reply to a file, and to a text
abbrev pub OptimisesFile : FileParts → List ℕ → ℕ → ReplySpec
OptimisesFile f name turns status output =
    HasUnfitWords (any_program_of f name ≡ None) status output
    ⊎ ((p : ProgTree) × (any_program_of f name ≡ Some p) × (status ≡ 0) × PrintsOptimised f name turns p output)

abbrev pub OptimisesText : List ℕ → List ℕ → ℕ → ReplySpec
OptimisesText text name turns = ReadsText text (λ f. OptimisesFile f name turns)

-- ---- what it says

-- The status is 0 exactly when a program of the file has the name; then the chain of first steps from it is printed
-- with the resulting program. It is 7 exactly when no program has the name.
pub record OptimiseHeadline (f : FileParts) (name : List ℕ) (turns status : ℕ) (output : List ℕ) : Type 0 where
  pub answers : (status ≡ 0) ⊎ (status ≡ 7)
  pub optimised : (status ≡ 0) ↔ ((p : ProgTree) × (any_program_of f name ≡ Some p))
  pub optimised_text : (p : ProgTree) → any_program_of f name ≡ Some p → PrintsOptimised f name turns p output
  pub unfit : (status ≡ 7) ↔ (any_program_of f name ≡ None)
  pub unfit_line : status ≡ 7 → output ≡ words_line

-- the text is read as a file in which no program has the name
abbrev pub LacksAnyProgram : List ℕ → List ℕ → Type 0
LacksAnyProgram text name = (f : FileParts) × Reads text f × (any_program_of f name ≡ None)

-- What a reply of `optimise` says about its text. The headline holds for the file that is read. A text that is not a
-- file is refused with its line.
pub record OptimiseReply (text name : List ℕ) (turns status : ℕ) (output : List ℕ) : Type 0 where
  pub replies : OptimisesText text name turns status output
  pub headline : (f : FileParts) → Reads text f → OptimiseHeadline f name turns status output
  pub declined : (line : List ℕ) → IsFaulty text line → (status ≡ 2) × (output ≡ line)
