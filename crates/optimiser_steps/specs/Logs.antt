-- Logs: the steps that take one program to another.
use Rattle.std.specs.Prelude.{◌≡◌, ℕ, List, [], ◌∷◌}
use Rattle.while_lang.specs.Files.{FileParts}
use Rattle.while_lang.specs.Programs.{ProgTree, stmts_of}
use Rattle.optimiser_steps.specs.Paths.{NoStep, IsFirstStep}

-- the number of a step, and its place in the program before the step
pub record LogLineParts : Type 0 where
  pub step : ℕ
  pub path : List ℕ

-- the step is the first of program p, and gives q
abbrev pub FirstStep : FileParts → ProgTree → LogLineParts → ProgTree → Type 0
FirstStep f p line q = IsFirstStep f (stmts_of p) line.path line.step (stmts_of q)

-- each line is the first step of the result of the lines before it
abbrev pub IsLog : FileParts → ProgTree → List LogLineParts → ProgTree → Type 0
IsLog f p [] q = p ≡ q
IsLog f p (line ∷ log) q = (r : ProgTree) × FirstStep f p line r × IsLog f r log q

-- no step is possible; some step is possible
abbrev pub IsFinished : FileParts → ProgTree → Type 0
IsFinished f p = NoStep f (stmts_of p)

abbrev pub HasStep : FileParts → ProgTree → Type 0
HasStep f p = (line : LogLineParts) × (q : ProgTree) × FirstStep f p line q
