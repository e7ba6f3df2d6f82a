-- The tally of generated problems, and its bounds.
use Rattle.std.specs.Prelude.{◌≡◌, ◌≤◌, ◌*◌, ℕ, length}
use Rattle.kat_model.specs.Problems.{ProblemParts}
use Rattle.kat_model.specs.Relations.{Same}
use Rattle.kat_model.specs.Strings.{GuardedString}
use Rattle.certificate.specs.Decisions.{IsShortest}
use Rattle.tool_decide.specs.Bench.{IsTally}

-- both sides are not the same, and a shortest string that refutes the problem has `moves` moves
abbrev pub HasFewest : ProblemParts → ℕ → Type 0
HasFewest q moves = (Same q → ⊥) × ((x : GuardedString) × IsShortest q x × (moves ≡ length x.rest))

-- the numbers for the first `k` problems, whose strings have fewer than 2^64 moves each
pub record IsTallied (k equal different moves : ℕ) : Type 0 where
  pub is_tally : IsTally k equal different moves
  pub few_equal : equal ≤ k
  pub few_different : different ≤ k
  pub few_moves : moves ≤ k * 18446744073709551616
