-- The parts of the loop of a form.
use Rattle.std.specs.Prelude.{◌≡◌, ◌<◌, ◌≤◌, ℕ, ◌+◌, List, [], ◌∷◌, length, take, drop, map}
use Rattle.kat_model.specs.Expressions.{CondTree, number, variable, compared}
use Rattle.kat_model.specs.declared.expression.Rel.TheVariants.{Ne, Lt}
use Rattle.while_lang.specs.Programs.{ProgTree, empty, skip_then, abort_then, assert_then, assign_then, branch_then, loop_then}
use Rattle.one_loop.specs.Working.Machine.{Point, passes, stops, checks, sets, chooses, points_of, start_of}

-- sets the counter to a point
abbrev pub jump : ℕ → ℕ → ProgTree
jump counter point = assign_then counter (number point) empty

-- runs the action of a point, then sets the counter to the point that follows
abbrev pub block_of : ℕ → Point → ProgTree
block_of counter (passes next) = jump counter next
block_of counter stops = abort_then empty
block_of counter (checks b next) = assert_then b (jump counter next)
block_of counter (sets x e next) = assign_then x e (jump counter next)
block_of counter (chooses b met unmet) = branch_then b (jump counter met) (jump counter unmet) empty

-- the condition that the counter is below the number
abbrev pub is_below : ℕ → ℕ → CondTree
is_below counter n = compared Lt (variable counter) (number n)

-- i is half of n, rounded down, and there is more than one
abbrev pub IsHalf : ℕ → ℕ → Type 0
IsHalf i n = (1 < n) × (i + i ≤ n) × (n ≤ i + i + 1)

-- q chooses among blocks by the counter, where the first block has the number `first`: q is the only block, or a branch
-- that separates the first half of the blocks, of which there are i, from the rest
pub data Chooses (counter : ℕ) : ℕ → List ProgTree → ProgTree → Type 0 where
  no_block : (first : ℕ) → Chooses counter first [] empty
  one_block : (first : ℕ) (block : ProgTree) → Chooses counter first (block ∷ []) block
  two_parts : (first i : ℕ) (blocks : List ProgTree) (p q : ProgTree) → i < length blocks → IsHalf i (length blocks) →
      Chooses counter first (take i blocks) p → Chooses counter (first + i) (drop i blocks) q →
      Chooses counter first blocks (branch_then (is_below counter (first + i)) p q empty)

-- the condition that the counter is not 0, the end
abbrev pub is_going : ℕ → CondTree
is_going counter = compared Ne (variable counter) (number 0)

-- the loop over points that starts at the point `start` and has this body
abbrev pub loop_from : ℕ → ℕ → ProgTree → ProgTree
loop_from counter start body = assign_then counter (number start) (loop_then (is_going counter) body empty)

-- q is the loop over the points of the program p
abbrev pub IsPointLoop : ℕ → ProgTree → ProgTree → Type 0
IsPointLoop counter p q =
    (body : ProgTree) × Chooses counter 1 (map (block_of counter) (points_of p 0 0)) body × (q ≡ loop_from counter (start_of p 0 0) body)
