-- Random programs over four tests and four actions. Each is drawn from the number of its problem by a linear
-- congruential generator (its constants are those of the example in ISO/IEC 9899:1990, 7.10.2).
use Rattle.std.specs.Prelude.{ℕ, zero, suc, ◌+◌, ◌*◌, ◌/◌, ◌%◌, ◌^◌, [], nat_eq, if◌then◌else◌}
use Rattle.kat_model.specs.Trees.{prim}
use Rattle.kat_model.specs.Problems.{ProblemParts}
use Rattle.while_lang.specs.Flows.{FlowTree, empty, skip_then, abort_then, assert_then, act_then, branch_then, loop_then}
use Rattle.while_lang.specs.Encoding.{encoded}

-- the state after a draw, and the number below 4 that is drawn
abbrev pub next_state : ℕ → ℕ
next_state s = (s * 1103515245 + 12345) % 2 ^ 31

abbrev pub drawn_number : ℕ → ℕ
drawn_number s = (next_state s / 65536) % 4

-- a program, and the state after its draws
pub record Drawn : Type 0 where
  pub flow : FlowTree
  pub state : ℕ

abbrev pub drawn : FlowTree → ℕ → Drawn
drawn f s = record { flow = f; state = s }

-- the statements of the first program, then those of the second
abbrev pub followed_by : FlowTree → FlowTree → FlowTree
followed_by empty g = g
followed_by (skip_then rest) g = skip_then (followed_by rest g)
followed_by (abort_then rest) g = abort_then (followed_by rest g)
followed_by (assert_then b rest) g = assert_then b (followed_by rest g)
followed_by (act_then a rest) g = act_then a (followed_by rest g)
followed_by (branch_then b p q rest) g = branch_then b p q (followed_by rest g)
followed_by (loop_then b p rest) g = loop_then b p (followed_by rest g)

-- one action with a drawn number
abbrev pub drawn_action : ℕ → Drawn
drawn_action s = drawn (act_then (drawn_number s) empty) (next_state s)

-- a program and then another; a branch on test k between a program and another; a loop on test k over a program
abbrev pub both_of : (ℕ → Drawn) → Drawn → Drawn
both_of draw p = drawn (followed_by p.flow (draw p.state).flow) (draw p.state).state

abbrev pub branch_of : (ℕ → Drawn) → ℕ → Drawn → Drawn
branch_of draw k p = drawn (branch_then (prim k) p.flow (draw p.state).flow empty) (draw p.state).state

abbrev pub loop_of : ℕ → Drawn → Drawn
loop_of k p = drawn (loop_then (prim k) p.flow empty) p.state

-- By the number drawn before: an action; a program and then another; a branch of two, or a loop of one, on a test whose
-- number is drawn first.
abbrev pub drawn_by : (ℕ → Drawn) → ℕ → ℕ → Drawn
drawn_by draw zero s = drawn_action s
drawn_by draw (suc zero) s = both_of draw (draw s)
drawn_by draw (suc (suc zero)) s = branch_of draw (drawn_number s) (draw (next_state s))
drawn_by draw (suc (suc (suc n))) s = loop_of (drawn_number s) (draw (next_state s))

-- a program with at most d levels, drawn from a state
unfoldable pub drawn_program : ℕ → ℕ → Drawn
drawn_program zero s = drawn_action s
drawn_program (suc d) s = drawn_by (drawn_program d) (drawn_number s) (next_state s)

-- the program with each loop unrolled once, also inside blocks
abbrev pub unrolled : FlowTree → FlowTree
unrolled empty = empty
unrolled (skip_then rest) = skip_then (unrolled rest)
unrolled (abort_then rest) = abort_then (unrolled rest)
unrolled (assert_then b rest) = assert_then b (unrolled rest)
unrolled (act_then a rest) = act_then a (unrolled rest)
unrolled (branch_then b p q rest) = branch_then b (unrolled p) (unrolled q) (unrolled rest)
unrolled (loop_then b p rest) = branch_then b (followed_by (unrolled p) (loop_then b (unrolled p) empty)) empty (unrolled rest)

-- for odd k, the unrolled program is followed by an additional action
abbrev pub right_program : ℕ → FlowTree → FlowTree
right_program k f = if nat_eq (k % 2) 0 then unrolled f else followed_by (unrolled f) (act_then 0 empty)

-- problem k: is the unrolled program equal to the program?
abbrev pub bench_problem : ℕ → ProblemParts
bench_problem k = record {
  tests = 4;
  actions = 4;
  hyps = [];
  left = encoded (drawn_program 4 k).flow;
  right = encoded (right_program k (drawn_program 4 k).flow);
}
