-- The sizes of trees, and terms as tests.
use Rattle.std.specs.Prelude.{ℕ, ◌+◌, max, min}
use Rattle.kat_model.specs.declared.limits.TheConstants.{MAX_TERM_NODES}
use Rattle.kat_model.specs.Trees.{TestTree, bottom, top, meet, join, Term, zero, one, test, act, sum, product, star}
use Rattle.kat_model.specs.Expressions.{ExprTree, number, variable, plus, minus, times, CondTree, always, never, named, compared, negation, both, either}

-- the number of nodes
abbrev pub expr_size : ExprTree → ℕ
expr_size (number n) = 1
expr_size (variable k) = 1
expr_size (plus e f) = expr_size e + expr_size f + 1
expr_size (minus e f) = expr_size e + expr_size f + 1
expr_size (times e f) = expr_size e + expr_size f + 1

-- the number of nodes, including those of expressions
abbrev pub cond_size : CondTree → ℕ
cond_size always = 1
cond_size never = 1
cond_size (named k) = 1
cond_size (compared r e f) = expr_size e + expr_size f + 1
cond_size (negation b) = cond_size b + 1
cond_size (both b c) = cond_size b + cond_size c + 1
cond_size (either b c) = cond_size b + cond_size c + 1

-- the size of the largest expression in a comparison, or 0
abbrev pub largest_expr : CondTree → ℕ
largest_expr always = 0
largest_expr never = 0
largest_expr (named k) = 0
largest_expr (compared r e f) = max (expr_size e) (expr_size f)
largest_expr (negation b) = largest_expr b
largest_expr (both b c) = max (largest_expr b) (largest_expr c)
largest_expr (either b c) = max (largest_expr b) (largest_expr c)

-- the term as a test; an action or a star counts as false
abbrev pub as_test : Term → TestTree
as_test zero = bottom
as_test one = top
as_test (test b) = b
as_test (act a) = bottom
as_test (sum e f) = join (as_test e) (as_test f)
as_test (product e f) = meet (as_test e) (as_test f)
as_test (star e) = bottom

-- `n`, capped at the maximum number of nodes plus one
abbrev pub capped : ℕ → ℕ
capped n = min n (MAX_TERM_NODES + 1)
