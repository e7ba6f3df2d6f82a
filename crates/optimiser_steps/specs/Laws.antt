-- The laws of steps and logs. Each is the contract of a function of the crate that does nothing.
use Rattle.std.specs.Prelude.{◌≡◌, List}
use Rattle.while_lang.specs.Files.{FileParts}
use Rattle.while_lang.specs.Programs.{ProgTree}
use Rattle.optimiser_steps.specs.Logs.{LogLineParts, FirstStep, IsLog}
use Rattle.optimiser_steps.specs.Meanings.{HasProgInRange, KeepsInTables, KeepsFromStores}

-- a program in a file has at most one first step, and the step gives one program
abbrev pub FirstStepIsOne : Type 0
FirstStepIsOne =
    (f : FileParts) (p q r : ProgTree) (line other : LogLineParts)
    → FirstStep f p line q → FirstStep f p other r → (line ≡ other) × (q ≡ r)

-- the steps of a log keep the numbers in range, and preserve the meaning of the program
pub record LogsKeep (f : FileParts) (p : ProgTree) (log : List LogLineParts) (q : ProgTree) : Type 0 where
  pub range : HasProgInRange f q
  pub in_tables : KeepsInTables f p q
  pub from_stores : KeepsFromStores f p q

abbrev pub LogsKeepMeaning : Type 0
LogsKeepMeaning = (f : FileParts) (p q : ProgTree) (log : List LogLineParts) → HasProgInRange f p → IsLog f p log q → LogsKeep f p log q
