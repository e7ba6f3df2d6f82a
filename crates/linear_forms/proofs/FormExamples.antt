-- Worked examples of forms and comparisons. The expected values were found by hand.
use Rattle.std.proofs.Common.{◌≡◌, ◌^◌, [], ◌∷◌, Less, Greater, refl}
use Rattle.kat_model.specs.Expressions.{ExprTree, number, variable, plus, minus, times}
use Rattle.kat_model.specs.declared.expression.Rel.TheVariants.{Eq, Ne, Lt, Le, Gt, Ge}
use Rattle.linear_forms.specs.Forms.{FormTree, constant, var_term, product_term, form_of_var, form_nodes}
use Rattle.linear_forms.specs.Order.{form_cmp}
use Rattle.linear_forms.specs.Arithmetic.{normal_form}
use Rattle.linear_forms.specs.Values.{form_value}
use Rattle.linear_forms.specs.Substitution.{replaced}
use Rattle.linear_forms.specs.Comparisons.{canonical, comparison_form, substituted}
use Rattle.linear_forms.specs.declared.comparison.Atomic.TheVariants.{Zero, Less as Below}
use Rattle.linear_forms.specs.declared.comparison.CondForm.TheVariants.{True, False, Pos, Neg}

abbrev x : ExprTree
x = variable 0

abbrev y : ExprTree
y = variable 1

-- the product of x and y
abbrev x_by_y : FormTree
x_by_y = product_term (form_of_var 0) (form_of_var 1) 1 (constant 0)

-- Sums are computed term by term, in the order of the variables.

sum_in_order : normal_form 256 (plus y (plus x (plus y (number 3)))) ≡ var_term 0 1 (var_term 1 2 (constant 3))
sum_in_order = refl

coefficient_beyond : normal_form 256 (plus (times (number 255) x) x) ≡ constant 0
coefficient_beyond = refl

difference_of_equals : normal_form 256 (minus (plus x y) (plus y x)) ≡ constant 0
difference_of_equals = refl

difference_turns_signs : normal_form 256 (minus x (plus y (number 1))) ≡ var_term 0 1 (var_term 1 255 (constant 255))
difference_turns_signs = refl

number_beyond : normal_form 256 (number 300) ≡ constant 44
number_beyond = refl

-- Products with a constant are multiplied out; others are not.

constant_times_form : normal_form 256 (times (number 3) (plus x (number 5))) ≡ var_term 0 3 (constant 15)
constant_times_form = refl

terms_that_vanish : normal_form 256 (times (plus (times (number 2) x) (number 1)) (number 128)) ≡ constant 128
terms_that_vanish = refl

lesser_first : normal_form 256 (times y x) ≡ x_by_y
lesser_first = refl

variables_before_products : normal_form 256 (plus (times x y) y) ≡ var_term 1 1 x_by_y
variables_before_products = refl

products_are_opaque : normal_form 256 (times x (plus y (number 1))) ≡ product_term (form_of_var 0) (var_term 1 1 (constant 1)) 1 (constant 0)
products_are_opaque = refl

-- A proper prefix is less, whatever its constant.

prefix_is_less : form_cmp (var_term 0 1 (constant 9)) (var_term 0 1 (var_term 1 1 (constant 0))) ≡ Less
prefix_is_less = refl

monomials_first : form_cmp (var_term 0 9 (constant 0)) (var_term 1 1 (constant 0)) ≡ Less
monomials_first = refl

then_coefficients : form_cmp (var_term 0 2 (constant 0)) (var_term 0 1 (constant 5)) ≡ Greater
then_coefficients = refl

-- A form has one node, and for each term one for a variable, or one and the nodes of both forms of a product.

nodes_of_sum : form_nodes (var_term 0 1 (var_term 1 255 (constant 255))) ≡ 3
nodes_of_sum = refl

nodes_of_product : form_nodes x_by_y ≡ 6
nodes_of_product = refl

-- The canonical one of a form and its negative has the lesser list of coefficients, then the lesser constant.

negative_is_lesser : canonical 256 (var_term 0 255 (constant 253)) ≡ var_term 0 1 (constant 3)
negative_is_lesser = refl

form_is_lesser : canonical 256 (var_term 0 1 (var_term 1 255 (constant 200))) ≡ var_term 0 1 (var_term 1 255 (constant 200))
form_is_lesser = refl

constant_decides : canonical 256 (var_term 0 128 (constant 253)) ≡ var_term 0 128 (constant 3)
constant_decides = refl

-- Worked comparisons at 64 bits.

nothing_is_below_zero : comparison_form (2 ^ 64) Lt x (number 0) ≡ False
nothing_is_below_zero = refl

zero_is_below_one : comparison_form (2 ^ 64) Lt x (number 1) ≡ Pos (Zero (form_of_var 0))
zero_is_below_one = refl

above_zero : comparison_form (2 ^ 64) Lt (number 0) x ≡ Neg (Zero (form_of_var 0))
above_zero = refl

at_most_the_greatest : comparison_form (2 ^ 64) Le x (number 18446744073709551615) ≡ True
at_most_the_greatest = refl

equal_to_three : comparison_form (2 ^ 64) Eq (number 3) x ≡ Pos (Zero (var_term 0 1 (constant 18446744073709551613)))
equal_to_three = refl

equal_sums : comparison_form (2 ^ 64) Eq (plus x y) (plus y x) ≡ True
equal_sums = refl

-- Other comparisons.

not_equal : comparison_form 256 Ne x y ≡ Neg (Zero (var_term 0 1 (var_term 1 255 (constant 0))))
not_equal = refl

less : comparison_form 256 Lt x y ≡ Pos (Below (form_of_var 0) (form_of_var 1))
less = refl

greater : comparison_form 256 Gt x y ≡ Pos (Below (form_of_var 1) (form_of_var 0))
greater = refl

at_least : comparison_form 256 Ge x y ≡ Neg (Below (form_of_var 0) (form_of_var 1))
at_least = refl

constants : comparison_form 256 Ge (number 300) (number 44) ≡ True
constants = refl

equal_forms : comparison_form 256 Lt (plus x y) (plus y x) ≡ False
equal_forms = refl

-- A form in place of a variable, in products too.

in_a_product : replaced 256 0 (var_term 1 1 (constant 2)) (product_term (form_of_var 0) (form_of_var 1) 3 (constant 4))
    ≡ product_term (form_of_var 1) (var_term 1 1 (constant 2)) 3 (constant 4)
in_a_product = refl

a_constant_multiplies_out : replaced 256 0 (constant 2) (product_term (form_of_var 0) (form_of_var 1) 3 (constant 4)) ≡ var_term 1 6 (constant 4)
a_constant_multiplies_out = refl

a_comparison_decided : substituted 256 0 (constant 7) (Below (form_of_var 0) (constant 9)) ≡ True
a_comparison_decided = refl

a_comparison_of_zero : substituted 256 0 (var_term 1 255 (constant 0)) (Below (form_of_var 0) (constant 1)) ≡ Pos (Zero (form_of_var 1))
a_comparison_of_zero = refl

untouched : substituted 256 2 (constant 7) (Below (form_of_var 0) (form_of_var 1)) ≡ Pos (Below (form_of_var 0) (form_of_var 1))
untouched = refl

-- Values wrap around at the end of the width.

value_beyond : form_value 256 (100 ∷ 3 ∷ []) (product_term (form_of_var 0) (form_of_var 1) 2 (constant 1)) ≡ 89
value_beyond = refl
