-- Unrolling each loop once, statement by statement.
use Rattle.while_lang.specs.Flows.{FlowStmt, skip, abort, assert, act, branch, loop, empty, loop_then}
use Rattle.bench_problems.specs.Generator.{followed_by, unrolled}

abbrev pub unrolled_stmt : FlowStmt → FlowStmt
unrolled_stmt skip = skip
unrolled_stmt abort = abort
unrolled_stmt (assert b) = assert b
unrolled_stmt (act a) = act a
unrolled_stmt (branch b p q) = branch b (unrolled p) (unrolled q)
unrolled_stmt (loop b p) = branch b (followed_by (unrolled p) (loop_then b (unrolled p) empty)) empty
