-- The numbers of which stores are made to try programs on them.
use Rattle.std.specs.Prelude.{◌↔◌, ℕ, ◌+◌, ◌-◌, ◌%◌, List, [], ◌∷◌, ◌++◌, flat_map, Contains}
use Rattle.std.specs.List.Sorted.{IsStrictlyIncreasing}
use Rattle.kat_model.specs.Stores.{modulus}
use Rattle.kat_model.specs.declared.expression.Width.{Width}
use Rattle.kat_model.specs.Expressions.{ExprTree, number, variable, plus, minus, times, CondTree, always, never, named, compared, negation, both, either}
use Rattle.while_lang.specs.Programs.{ProgTree, empty, skip_then, abort_then, assert_then, act_then, assign_then, branch_then, loop_then}
use Rattle.while_lang.specs.Files.{GoalTree, equal, below, triple, SideTree, term_side, prog_side}

-- the numbers of an expression, a condition and a program
abbrev pub expr_numbers : ExprTree → List ℕ
expr_numbers (number n) = n ∷ []
expr_numbers (variable k) = []
expr_numbers (plus e f) = expr_numbers e ++ expr_numbers f
expr_numbers (minus e f) = expr_numbers e ++ expr_numbers f
expr_numbers (times e f) = expr_numbers e ++ expr_numbers f

abbrev pub cond_numbers : CondTree → List ℕ
cond_numbers always = []
cond_numbers never = []
cond_numbers (named k) = []
cond_numbers (compared r e f) = expr_numbers e ++ expr_numbers f
cond_numbers (negation b) = cond_numbers b
cond_numbers (both b c) = cond_numbers b ++ cond_numbers c
cond_numbers (either b c) = cond_numbers b ++ cond_numbers c

abbrev pub prog_numbers : ProgTree → List ℕ
prog_numbers empty = []
prog_numbers (skip_then rest) = prog_numbers rest
prog_numbers (abort_then rest) = prog_numbers rest
prog_numbers (assert_then b rest) = cond_numbers b ++ prog_numbers rest
prog_numbers (act_then a rest) = prog_numbers rest
prog_numbers (assign_then x e rest) = expr_numbers e ++ prog_numbers rest
prog_numbers (branch_then b p q rest) = cond_numbers b ++ prog_numbers p ++ prog_numbers q ++ prog_numbers rest
prog_numbers (loop_then b p rest) = cond_numbers b ++ prog_numbers p ++ prog_numbers rest

abbrev pub side_numbers : SideTree → List ℕ
side_numbers (term_side e) = []
side_numbers (prog_side p) = prog_numbers p

-- the numbers of a goal: of its sides and its conditions
abbrev pub goal_numbers : GoalTree → List ℕ
goal_numbers (equal s t) = side_numbers s ++ side_numbers t
goal_numbers (below s t) = side_numbers s ++ side_numbers t
goal_numbers (triple b s c) = cond_numbers b ++ side_numbers s ++ cond_numbers c

-- a number of the width, the number after it and the number before it
abbrev pub near : ℕ → ℕ → List ℕ
near m n = n % m ∷ (n + 1) % m ∷ (n + (m - 1)) % m ∷ []

-- 0, 1, 2, the greatest number of the width, and the numbers near those of the list
abbrev pub tried : Width → List ℕ → List ℕ
tried w ns = 0 ∷ 1 ∷ 2 ∷ (modulus w - 1) ∷ flat_map (near (modulus w)) ns

-- the ascending list of the numbers of which stores are made
pub record AreTriedNumbers (w : Width) (g : GoalTree) (ns : List ℕ) : Type 0 where
  pub ascending : IsStrictlyIncreasing ns
  pub members : (n : ℕ) → Contains ns n ↔ Contains (tried w (goal_numbers g)) n
