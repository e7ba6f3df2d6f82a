-- The size of a form: its nodes, its expressions, its nesting, and its numbers.
use Rattle.std.specs.Prelude.{◌≤◌, ◌<◌, ◌+◌, ◌*◌, ◌^◌, ℕ, max}
use Rattle.while_lang.specs.Programs.{ProgTree, statements}
use Rattle.while_lang.specs.ProgramSizes.{prog_size, largest_in}
use Rattle.while_lang.specs.ProgramPrinting.{block_levels}
use Rattle.while_lang.specs.Leaves.{Anything, EveryLeaf}

-- each number of the program is below m
abbrev pub HasNumbersBelow : ℕ → ProgTree → Type 0
HasNumbersBelow m p = EveryLeaf (λ n. n < m) Anything Anything Anything p

-- q has few nodes for a form of p, no large expression, and nests little deeper: by the logarithm of the number of
-- statements. Its numbers are below each bound on the numbers and the number of statements of p
pub record IsSmallForm (p q : ProgTree) : Type 0 where
  pub nodes : prog_size q ≤ prog_size p + 8 * statements p + 6
  pub exprs : largest_in q ≤ max (largest_in p) 1
  pub levels : (k : ℕ) → statements p ≤ 2 ^ k → block_levels q ≤ block_levels p + k + 1
  pub numbers : (m : ℕ) → statements p < m → HasNumbersBelow m p → HasNumbersBelow m q
