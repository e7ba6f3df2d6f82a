-- What the search for steps of a list returns.
use Rattle.std.specs.Prelude.{◌≡◌, ◌≤◌, ◌<◌, ℕ, List, [], ◌∷◌, ◌++◌, map, Option, MatchOption}
use Rattle.while_lang.specs.Files.{FileParts}
use Rattle.while_lang.specs.Programs.{ProgTree, StmtTree, stmts_of}
use Rattle.while_lang.specs.ProgramViews.{stmt_tree}
use Rattle.optimiser_steps.specs.Steps.{Step}
use Rattle.optimiser_steps.specs.Paths.{NoStep, NoStepBefore, IsFirstStep}
use Rattle.optimiser_steps.specs.declared.rewriting.Made.{Made}
use Rattle.optimiser_steps.specs.declared.statement_steps.SharedEnd.{SharedEnd}
use Rattle.optimiser_steps.specs.declared.paths.Found.{Found}

-- no step with a number from low to below high is possible on the list
abbrev pub NoStepFrom : FileParts → List StmtTree → ℕ → ℕ → Type 0
NoStepFrom f ss low high = (n : ℕ) (ts : List StmtTree) → low ≤ n → n < high → Step f n ss ts → ⊥

-- the step rewrites the list to the given one, and no step from low to below it is possible
pub record IsLeastFrom (f : FileParts) (ss : List StmtTree) (low high : ℕ) (m : Made) : Type 0 where
  pub above : low ≤ m.step
  pub below : m.step < high
  pub step : Step f m.step ss (map stmt_tree m.list.items)
  pub least : NoStepFrom f ss low m.step

-- the result is the least possible step from low to below high, or there is none
abbrev pub FindsLeast : FileParts → List StmtTree → ℕ → ℕ → Option Made → Type 0
FindsLeast f ss low high found = MatchOption found (NoStepFrom f ss low high) (IsLeastFrom f ss low high)

-- the two programs end with the same statement
abbrev pub EndAlike : ProgTree → ProgTree → List StmtTree → List StmtTree → StmtTree → Type 0
EndAlike p q ps qs r = (stmts_of p ≡ ps ++ r ∷ []) × (stmts_of q ≡ qs ++ r ∷ [])

-- the result is the last statement that the programs share and what precedes it, or they share none
abbrev pub FindsSharedEnd : ProgTree → ProgTree → Option SharedEnd → Type 0
FindsSharedEnd p q found =
    MatchOption found
    ((ps qs : List StmtTree) (r : StmtTree) → EndAlike p q ps qs r → ⊥)
    (λ e. EndAlike p q (stmts_of e.first) (stmts_of e.second) (stmt_tree e.last))

-- the result is the first step of the list
abbrev pub IsFirst : FileParts → List StmtTree → Found → Type 0
IsFirst f ss m = IsFirstStep f ss m.path.items m.step (map stmt_tree m.list.items)

-- the result is the first step; or there is none before the path, or none at all
abbrev pub FindsFirstBefore : FileParts → List ℕ → List StmtTree → Option Found → Type 0
FindsFirstBefore f path ss found = MatchOption found (NoStepBefore f path ss) (IsFirst f ss)

abbrev pub FindsFirst : FileParts → List StmtTree → Option Found → Type 0
FindsFirst f ss found = MatchOption found (NoStep f ss) (IsFirst f ss)
