-- Conditions and programs over the rows of tables.
use Rattle.std.specs.Prelude.{ℕ, ◌+◌, Option, Some, option_map, unwrap_or, position}
use Rattle.kat_model.specs.Trees.{TestTree, bottom, top, prim, complement, meet, join}
use Rattle.kat_model.specs.Expressions.{CondTree, always, never, named, compared, negation, both, either}
use Rattle.kat_model.specs.Stores.{modulus}
use Rattle.linear_forms.specs.Arithmetic.{normal_form}
use Rattle.linear_forms.specs.Comparisons.{comparison_form}
use Rattle.linear_forms.specs.declared.comparison.Atomic.{Atomic}
use Rattle.linear_forms.specs.declared.comparison.CondForm.{CondForm}
use Rattle.linear_forms.specs.declared.comparison.CondForm.TheVariants.{True, False, Pos, Neg}
use Rattle.while_lang.specs.Programs.{ProgTree, empty, skip_then, abort_then, assert_then, act_then, assign_then, branch_then, loop_then}
use Rattle.while_lang.specs.Flows as flow
use Rattle.while_lang.specs.Flows.{FlowTree}
use Rattle.abstraction.specs.Comparisons.{Assignment}
use Rattle.linear_forms.specs.Sameness.{is_same_comparison}
use Rattle.abstraction.specs.Tables.{is_same_assignment, Tables}

-- the number of a comparison among the tests, and of an assignment among the actions; the declared ones come first
abbrev pub test_number : Tables → Atomic → Option ℕ
test_number t a = option_map (λ k. t.tests + k) (position (is_same_comparison a) t.comparisons)

abbrev pub action_number : Tables → Assignment → Option ℕ
action_number t a = option_map (λ k. t.actions + k) (position (is_same_assignment a) t.assignments)

-- the test of a condition form, if it is constant or its comparison is in the table
abbrev pub form_test : Tables → CondForm → Option TestTree
form_test t True = Some top
form_test t False = Some bottom
form_test t (Pos a) = option_map prim (test_number t a)
form_test t (Neg a) = option_map (λ k. complement (prim k)) (test_number t a)

-- the test of a condition. Total: a comparison without a row is false, and an assignment without a row is action 0
-- (`prog_flow`). The comparisons and assignments of the goal all have rows.
abbrev pub cond_test : Tables → CondTree → TestTree
cond_test t always = top
cond_test t never = bottom
cond_test t (named k) = prim k
cond_test t (compared rel e f) = unwrap_or (form_test t (comparison_form (modulus t.width) rel e f)) bottom
cond_test t (negation b) = complement (cond_test t b)
cond_test t (both b c) = meet (cond_test t b) (cond_test t c)
cond_test t (either b c) = join (cond_test t b) (cond_test t c)

-- the action of an assignment; one that is not in the table counts as action 0
abbrev pub assignment_action : Tables → Assignment → ℕ
assignment_action t a = unwrap_or (action_number t a) 0

-- the flow of a program: its conditions as tests, and its assignments as actions
abbrev pub prog_flow : Tables → ProgTree → FlowTree
prog_flow t empty = flow.empty
prog_flow t (skip_then rest) = flow.skip_then (prog_flow t rest)
prog_flow t (abort_then rest) = flow.abort_then (prog_flow t rest)
prog_flow t (assert_then b rest) = flow.assert_then (cond_test t b) (prog_flow t rest)
prog_flow t (act_then a rest) = flow.act_then a (prog_flow t rest)
prog_flow t (assign_then x e rest) =
    flow.act_then (assignment_action t (record { var = x; form = normal_form (modulus t.width) e })) (prog_flow t rest)
prog_flow t (branch_then b p q rest) = flow.branch_then (cond_test t b) (prog_flow t p) (prog_flow t q) (prog_flow t rest)
prog_flow t (loop_then b p rest) = flow.loop_then (cond_test t b) (prog_flow t p) (prog_flow t rest)
