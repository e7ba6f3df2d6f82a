-- The comparisons and the assignments of a goal in text order: its sides from left to right; for a triple the first
-- condition, the side and the second condition; programs statement by statement.
use Rattle.std.specs.Prelude.{ℕ, List, [], ◌∷◌, ◌++◌}
use Rattle.kat_model.specs.Expressions.{CondTree, always, never, named, compared, negation, both, either}
use Rattle.linear_forms.specs.Forms.{FormTree}
use Rattle.linear_forms.specs.Arithmetic.{normal_form}
use Rattle.linear_forms.specs.Comparisons.{comparison_form}
use Rattle.linear_forms.specs.declared.comparison.Atomic.{Atomic}
use Rattle.linear_forms.specs.declared.comparison.CondForm.{CondForm}
use Rattle.linear_forms.specs.declared.comparison.CondForm.TheVariants.{True, False, Pos, Neg}
use Rattle.while_lang.specs.Programs.{ProgTree, empty, skip_then, abort_then, assert_then, act_then, assign_then, branch_then, loop_then}
use Rattle.while_lang.specs.Files.{SideTree, term_side, prog_side, GoalTree, equal, below, triple}

-- an assignment of a form to a variable
pub record Assignment : Type 0 where
  pub var : ℕ
  pub form : FormTree

-- the comparison of a condition form; a constant form has none
abbrev pub atomics : CondForm → List Atomic
atomics True = []
atomics False = []
atomics (Pos a) = a ∷ []
atomics (Neg a) = a ∷ []

-- the comparisons of a condition, modulo m
abbrev pub cond_comparisons : ℕ → CondTree → List Atomic
cond_comparisons m always = []
cond_comparisons m never = []
cond_comparisons m (named k) = []
cond_comparisons m (compared rel e f) = atomics (comparison_form m rel e f)
cond_comparisons m (negation b) = cond_comparisons m b
cond_comparisons m (both b c) = cond_comparisons m b ++ cond_comparisons m c
cond_comparisons m (either b c) = cond_comparisons m b ++ cond_comparisons m c

abbrev pub prog_comparisons : ℕ → ProgTree → List Atomic
prog_comparisons m empty = []
prog_comparisons m (skip_then rest) = prog_comparisons m rest
prog_comparisons m (abort_then rest) = prog_comparisons m rest
prog_comparisons m (assert_then b rest) = cond_comparisons m b ++ prog_comparisons m rest
prog_comparisons m (act_then a rest) = prog_comparisons m rest
prog_comparisons m (assign_then x e rest) = prog_comparisons m rest
prog_comparisons m (branch_then b p q rest) = cond_comparisons m b ++ prog_comparisons m p ++ prog_comparisons m q ++ prog_comparisons m rest
prog_comparisons m (loop_then b p rest) = cond_comparisons m b ++ prog_comparisons m p ++ prog_comparisons m rest

abbrev pub side_comparisons : ℕ → SideTree → List Atomic
side_comparisons m (term_side e) = []
side_comparisons m (prog_side p) = prog_comparisons m p

abbrev pub goal_comparisons : ℕ → GoalTree → List Atomic
goal_comparisons m (equal l r) = side_comparisons m l ++ side_comparisons m r
goal_comparisons m (below l r) = side_comparisons m l ++ side_comparisons m r
goal_comparisons m (triple pre body post) = cond_comparisons m pre ++ side_comparisons m body ++ cond_comparisons m post

-- the assignments of a program, with their expressions in normal form modulo m
abbrev pub prog_assignments : ℕ → ProgTree → List Assignment
prog_assignments m empty = []
prog_assignments m (skip_then rest) = prog_assignments m rest
prog_assignments m (abort_then rest) = prog_assignments m rest
prog_assignments m (assert_then b rest) = prog_assignments m rest
prog_assignments m (act_then a rest) = prog_assignments m rest
prog_assignments m (assign_then x e rest) = record { var = x; form = normal_form m e } ∷ prog_assignments m rest
prog_assignments m (branch_then b p q rest) = prog_assignments m p ++ prog_assignments m q ++ prog_assignments m rest
prog_assignments m (loop_then b p rest) = prog_assignments m p ++ prog_assignments m rest

abbrev pub side_assignments : ℕ → SideTree → List Assignment
side_assignments m (term_side e) = []
side_assignments m (prog_side p) = prog_assignments m p

abbrev pub goal_assignments : ℕ → GoalTree → List Assignment
goal_assignments m (equal l r) = side_assignments m l ++ side_assignments m r
goal_assignments m (below l r) = side_assignments m l ++ side_assignments m r
goal_assignments m (triple pre body post) = side_assignments m body
