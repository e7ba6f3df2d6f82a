-- The sizes of programs that the limits bound.
use Rattle.std.specs.Prelude.{ℕ, ◌+◌, max}
use Rattle.text_parser.specs.Sizes.{expr_size, cond_size, largest_expr}
use Rattle.while_lang.specs.Programs.{ProgTree, empty, skip_then, abort_then, assert_then, act_then, assign_then, branch_then, loop_then}

-- the number of nodes: one for each statement, plus those of its condition, its expression and its blocks
abbrev pub prog_size : ProgTree → ℕ
prog_size empty = 0
prog_size (skip_then rest) = 1 + prog_size rest
prog_size (abort_then rest) = 1 + prog_size rest
prog_size (assert_then b rest) = 1 + cond_size b + prog_size rest
prog_size (act_then a rest) = 1 + prog_size rest
prog_size (assign_then x e rest) = 1 + expr_size e + prog_size rest
prog_size (branch_then b p q rest) = 1 + cond_size b + prog_size p + prog_size q + prog_size rest
prog_size (loop_then b p rest) = 1 + cond_size b + prog_size p + prog_size rest

-- the size of the largest expression in the program, or 0
abbrev pub largest_in : ProgTree → ℕ
largest_in empty = 0
largest_in (skip_then rest) = largest_in rest
largest_in (abort_then rest) = largest_in rest
largest_in (assert_then b rest) = max (largest_expr b) (largest_in rest)
largest_in (act_then a rest) = largest_in rest
largest_in (assign_then x e rest) = max (expr_size e) (largest_in rest)
largest_in (branch_then b p q rest) = max (max (largest_expr b) (max (largest_in p) (largest_in q))) (largest_in rest)
largest_in (loop_then b p rest) = max (max (largest_expr b) (largest_in p)) (largest_in rest)
