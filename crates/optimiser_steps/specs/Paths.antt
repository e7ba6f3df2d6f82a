-- The places of steps. A path is a position in a list of statements, and then for each level down the number of a block
-- of the statement there and a position in that block.
use Rattle.std.specs.Prelude.{◌≡◌, ◌<◌, ◌⊎◌, ℕ, List, [], ◌∷◌, ◌++◌, take, drop, Some}
use Rattle.while_lang.specs.Files.{FileParts}
use Rattle.while_lang.specs.Programs.{ProgTree, StmtTree, stmts_of}
use Rattle.optimiser_steps.specs.Statements.{block, with_block}
use Rattle.optimiser_steps.specs.Steps.{Step}

-- step n at the path takes the first list to the second
abbrev pub StepsAt : FileParts → ℕ → List ℕ → List StmtTree → List StmtTree → Type 0
StepsAt f n [] ss ts = ⊥
StepsAt f n (k ∷ []) ss ts = (new : List StmtTree) × Step f n (drop k ss) new × (ts ≡ take k ss ++ new)
StepsAt f n (k ∷ j ∷ path) ss ts =
    (s : StmtTree) × (rest : List StmtTree) × (p q : ProgTree)
    × (drop k ss ≡ s ∷ rest)
    × (block s j ≡ Some p)
    × StepsAt f n path (stmts_of p) (stmts_of q)
    × (ts ≡ take k ss ++ with_block s j q ∷ rest)

-- the order of places in the text, which is lexicographic: a position comes before the places inside its statement, a
-- first block before a second, and these before the next position
abbrev pub IsBefore : List ℕ → List ℕ → Type 0
IsBefore path [] = ⊥
IsBefore [] (k ∷ path) = Unit {0}
IsBefore (j ∷ before) (k ∷ path) = (j < k) ⊎ ((j ≡ k) × IsBefore before path)

-- no step is possible before the path; no step is possible anywhere
abbrev pub NoStepBefore : FileParts → List ℕ → List StmtTree → Type 0
NoStepBefore f path ss = (n : ℕ) (before : List ℕ) (ts : List StmtTree) → IsBefore before path → StepsAt f n before ss ts → ⊥

abbrev pub NoStep : FileParts → List StmtTree → Type 0
NoStep f ss = (n : ℕ) (path : List ℕ) (ts : List StmtTree) → StepsAt f n path ss ts → ⊥

-- the first step: step n is possible at the path, no step is possible before the path, and no step with a smaller
-- number is possible at it
pub record IsFirstStep (f : FileParts) (ss : List StmtTree) (path : List ℕ) (n : ℕ) (ts : List StmtTree) : Type 0 where
  pub made : StepsAt f n path ss ts
  pub first : NoStepBefore f path ss
  pub least : (m : ℕ) (us : List StmtTree) → m < n → StepsAt f m path ss us → ⊥
