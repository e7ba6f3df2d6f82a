-- The programs drawn from some numbers.
use Rattle.std.proofs.Common.{◌≡◌, refl}
use Rattle.kat_model.specs.Trees.{prim, term_size}
use Rattle.while_lang.specs.Flows.{empty, act_then, branch_then, loop_then}
use Rattle.bench_problems.specs.Generator.{drawn_program, unrolled, bench_problem}

-- if t2 { while t3 { while t2 { a3; } } a2; } else { while t0 { a1; } while t1 { while t1 { a2; } } }
program-one : (drawn_program 4 1).flow
    ≡ branch_then (prim 2)
    (loop_then (prim 3) (loop_then (prim 2) (act_then 3 empty) empty) (act_then 2 empty))
    (loop_then (prim 0) (act_then 1 empty) (loop_then (prim 1) (loop_then (prim 1) (act_then 2 empty) empty) empty))
    empty
unfolding drawn_program
program-one = refl

left-one : term_size (bench_problem 1).left ≡ 54
unfolding drawn_program
left-one = refl

right-one : term_size (bench_problem 1).right ≡ 149
unfolding drawn_program
right-one = refl

program-zero : (drawn_program 4 0).flow ≡ act_then 0 empty
unfolding drawn_program
program-zero = refl

-- nested loops, unrolled
unrolled-nested : unrolled (loop_then (prim 0) (loop_then (prim 1) (act_then 0 empty) empty) empty)
    ≡ branch_then (prim 0)
    (branch_then (prim 1) (act_then 0 (loop_then (prim 1) (act_then 0 empty) empty)) empty (loop_then (prim 0) (branch_then (prim 1) (act_then 0 (loop_then (prim 1) (act_then 0 empty) empty)) empty empty) empty))
    empty
    empty
unrolled-nested = refl
