-- Worked examples of derived hypotheses. The numbers were computed by hand.
use Rattle.std.proofs.Common.{◌≡◌, ℕ, ◌^◌, List, [], ◌∷◌, ◌++◌, Ok, refl}
use Rattle.kat_model.specs.Trees.{TestTree, bottom, top, prim, complement, Term, test, act, product}
use Rattle.kat_model.specs.Expressions.{number, variable, plus, always, compared}
use Rattle.kat_model.specs.declared.expression.Rel.TheVariants.{Eq, Lt, Gt}
use Rattle.kat_model.specs.declared.expression.Width.{Width}
use Rattle.kat_model.specs.declared.expression.Width.TheVariants.{W8, W64}
use Rattle.linear_forms.specs.Forms.{FormTree, constant, var_term, form_of_var}
use Rattle.linear_forms.specs.declared.comparison.Atomic.TheVariants.{Zero, Less}
use Rattle.text_parser.specs.ScopeParts.{empty_scope}
use Rattle.while_lang.specs.Programs.{empty, assign_then}
use Rattle.while_lang.specs.Files.{prog_side, GoalTree, triple, FileParts}
use Rattle.abstraction.specs.declared.rule.Rule.{Rule}
use Rattle.abstraction.specs.declared.rule.Rule.TheVariants.{Assign, F1, F2, F3, F4, F5, F6}
use Rattle.abstraction.specs.declared.rows.TestRow.TheVariants.{Compare}
use Rattle.abstraction.specs.Rounds.{tables_of}
use Rattle.abstraction.specs.Facts.{Hypothesis, apart_fact, order_fact, equality_fact, bound_fact, constant_fact, three_way_fact}
use Rattle.abstraction.specs.Derived.{derived}
use Rattle.abstraction.specs.Abstracts.{test_rows_of, abstract_parts, abstract_of}

abbrev x : FormTree
x = form_of_var 0

abbrev y : FormTree
y = form_of_var 1

-- x - 3, x + 1 and x - y, modulo 2 ^ 64
abbrev x_less_three : FormTree
x_less_three = var_term 0 1 (constant 18446744073709551613)

abbrev x_and_one : FormTree
x_and_one = var_term 0 1 (constant 1)

abbrev x_less_y : FormTree
x_less_y = var_term 0 1 (var_term 1 18446744073709551615 (constant 0))

abbrev because : Rule → Term → Hypothesis
because rule term = record { rule = rule; term = term }

-- tests i and j exclude one another, and i implies j
abbrev not_both : ℕ → ℕ → Term
not_both i j = product (test (prim i)) (test (prim j))

abbrev not_alone : ℕ → ℕ → Term
not_alone i j = product (test (prim i)) (test (complement (prim j)))

-- x and x + 1 are not both 0; the rows are named in order, and only once
differ_by_one : apart_fact (2 ^ 64) (0, Zero x) (1, Zero x_and_one) ≡ because (F1 0 1) (not_both 0 1) ∷ []
differ_by_one = refl

rows_in_order : apart_fact (2 ^ 64) (1, Zero x_and_one) (0, Zero x) ≡ []
rows_in_order = refl

-- x - 3 and -x add up to -3
add_up : apart_fact 256 (2, Zero (var_term 0 1 (constant 253))) (5, Zero (var_term 0 255 (constant 0))) ≡ because (F1 2 5) (not_both 2 5) ∷ []
add_up = refl

both_orders : order_fact (0, Less x y) (1, Less y x) ≡ because (F2 0 1) (not_both 0 1) ∷ []
both_orders = refl

less_and_equal : equality_fact (2 ^ 64) (0, Less x y) (1, Zero x_less_y) ≡ because (F3 0 1) (not_both 0 1) ∷ []
less_and_equal = refl

-- the same for y < x, whose difference has the same canonical form; here the second row has the smaller number
greater_and_equal : equality_fact (2 ^ 64) (1, Less y x) (0, Zero x_less_y) ≡ because (F3 1 0) (not_both 1 0) ∷ []
greater_and_equal = refl

-- x < 3 implies x < 5
three_below_five : bound_fact (0, Less x (constant 3)) (1, Less x (constant 5)) ≡ because (F4 0 1) (not_alone 0 1) ∷ []
three_below_five = refl

five_above_three : bound_fact (0, Less x (constant 5)) (1, Less x (constant 3)) ≡ []
five_above_three = refl

-- x = 3 implies x < 5, and excludes x < 2
three_is_below : constant_fact (2 ^ 64) (0, Zero x_less_three) (1, Less x (constant 5)) ≡ because (F5 0 1) (not_alone 0 1) ∷ []
three_is_below = refl

three_is_above : constant_fact (2 ^ 64) (0, Zero x_less_three) (1, Less x (constant 2)) ≡ because (F5 0 1) (not_both 0 1) ∷ []
three_is_above = refl

-- the sum of -x and x - 3 is a constant, the number that represents -3
sum_is_constant : constant_fact 256 (0, Zero (var_term 0 1 (constant 253))) (1, Less (var_term 0 255 (constant 0)) (constant 5)) ≡ because (F5 0 1) (not_both 0 1) ∷ []
sum_is_constant = refl

-- if 128 x = 0 modulo 256, the form 128 x + 3 is 3 by the difference and by the sum
by_both : constant_fact 256 (0, Zero (var_term 0 128 (constant 0))) (1, Less (var_term 0 128 (constant 3)) (constant 5))
    ≡ because (F5 0 1) (not_alone 0 1) ∷ because (F5 0 1) (not_alone 0 1) ∷ []
by_both = refl

one_of_three : three_way_fact (2 ^ 64) (0, Less x y) (1, Less y x) (2, Zero x_less_y)
    ≡ because (F6 0 1 2) (product (test (complement (prim 0))) (product (test (complement (prim 1))) (test (complement (prim 2))))) ∷ []
one_of_three = refl

-- a file with one variable and one round
abbrev file_with : Width → GoalTree → FileParts
file_with w g = record {
  scope = empty_scope;
  tests = 0;
  actions = 0;
  vars = 1;
  terms = 0;
  progs = [];
  prog_names = [];
  hyps = [];
  rounds = 1;
  goal = g;
  width = w;
}

-- triple {true} { x := 18446744073709551615; x := x + 1; } {x == 0}
abbrev wrap_around : FileParts
wrap_around =
    file_with W64
    (triple always (prog_side (assign_then 0 (number 18446744073709551615) (assign_then 0 (plus (variable 0) (number 1)) empty))) (compared Eq (variable 0) (number 0)))

tests_of_wrap_around : test_rows_of (tables_of wrap_around) ≡ Compare (Zero x) ∷ Compare (Zero x_and_one) ∷ []
tests_of_wrap_around = refl

abstraction_of_wrap_around : abstract_of wrap_around ≡ Ok (abstract_parts wrap_around)
abstraction_of_wrap_around = refl

-- no run of action i from psi ends outside test j, and no run from outside psi ends in it
abbrev kept : ℕ → ℕ → TestTree → List Hypothesis
kept i j psi =
    because (Assign i j) (product (test psi) (product (act i) (test (complement (prim j)))))
    ∷ because (Assign i j) (product (test (complement psi)) (product (act i) (test (prim j)))) ∷ []

hypotheses_of_wrap_around : derived (tables_of wrap_around) ≡ kept 0 0 bottom ++ kept 0 1 top ++ kept 1 0 (prim 1) ++ because (F1 0 1) (not_both 0 1) ∷ []
hypotheses_of_wrap_around = refl

-- triple {x < 255} { x := x + 1; } {x > 0} at width 8: tests x < 255 and x == 0, and from the round x + 1 < 255 and
-- x + 1 == 0
abbrev increment : FileParts
increment =
    file_with W8
    (triple (compared Lt (variable 0) (number 255)) (prog_side (assign_then 0 (plus (variable 0) (number 1)) empty)) (compared Gt (variable 0) (number 0)))

tests_of_increment : test_rows_of (tables_of increment)
    ≡ Compare (Less x (constant 255)) ∷ Compare (Zero x) ∷ Compare (Less x_and_one (constant 255)) ∷ Compare (Zero x_and_one) ∷ []
tests_of_increment = refl

-- a value equal to 255 is not below 255
hypotheses_of_increment : derived (tables_of increment)
    ≡ kept 0 0 (prim 2) ++ kept 0 1 (prim 3) ++ because (F1 1 3) (not_both 1 3) ∷ because (F3 0 3) (not_both 0 3)
    ∷ because (F5 1 0) (not_alone 1 0) ∷ because (F5 1 2) (not_alone 1 2) ∷ because (F5 3 0) (not_both 3 0) ∷ because (F5 3 2) (not_alone 3 2) ∷ []
hypotheses_of_increment = refl
