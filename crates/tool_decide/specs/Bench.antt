-- `bench`: its line, defined only by which problems are the same and by the fewest moves of refuting strings.
use Rattle.std.specs.Prelude.{◌≡◌, ◌⊎◌, ℕ, zero, suc, ◌+◌, List, ◌++◌, length, codes}
use Rattle.std.specs.Fmt.{decimal}
use Rattle.kat_model.specs.Relations.{Same}
use Rattle.kat_model.specs.Strings.{GuardedString}
use Rattle.certificate.specs.Decisions.{IsShortest}
use Rattle.bench_problems.specs.Generator.{bench_problem}

-- of the first problems, `equal` are the same, `different` are not, and the shortest strings that refute the latter
-- have `moves` moves in total
abbrev pub IsTally : ℕ → (equal different moves : ℕ) → Type 0
IsTally zero equal different moves = (equal ≡ 0) × (different ≡ 0) × (moves ≡ 0)
IsTally (suc k) equal different moves =
    ((before : ℕ) × IsTally k before different moves × Same (bench_problem k) × (equal ≡ before + 1))
    ⊎ ((before : ℕ) × (so_far : ℕ) × (x : GuardedString)
    × IsTally k equal before so_far
    × (Same (bench_problem k) → ⊥)
    × IsShortest (bench_problem k) x
    × (different ≡ before + 1)
    × (moves ≡ so_far + length x.rest))

-- `problems N equal E different D moves M` and a line feed
abbrev pub tally_line : (count equal different moves : ℕ) → List ℕ
tally_line count equal different moves =
    (codes "problems " ++ decimal count) ++ (codes " equal " ++ decimal equal) ++ (codes " different " ++ decimal different) ++ (codes " moves " ++ decimal moves) ++ codes "\n"

-- the numbers for the first `count` problems are printed
pub record PrintsTally (count : ℕ) (output : List ℕ) : Type 0 where
  pub equal : ℕ
  pub different : ℕ
  pub moves : ℕ
  pub is_tally : IsTally count equal different moves
  pub printed : output ≡ tally_line count equal different moves

-- What a reply of `bench` says: the status is 0, and the line gives the numbers for the first `count` problems. They
-- are unique, so every call prints the same line.
pub record BenchReply (count status : ℕ) (output : List ℕ) : Type 0 where
  pub answers : status ≡ 0
  pub prints : PrintsTally count output
  pub only : (equal different moves : ℕ) → IsTally count equal different moves → output ≡ tally_line count equal different moves
