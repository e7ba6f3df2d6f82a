-- Comparisons of forms, in normal form.
use Rattle.std.specs.Prelude.{ℕ, ◌+◌, ◌-◌, ◌*◌, ◌%◌, ◌^◌, ◌&&◌, ◌||◌, not, nat_eq, nat_lt, Bool, true, false, if◌then◌else◌}
use Rattle.std.specs.Ordering.{is_eq}
use Rattle.kat_model.specs.Stores.{bits, modulus}
use Rattle.kat_model.specs.declared.expression.Width.{Width}
use Rattle.kat_model.specs.declared.expression.Rel.{Rel}
use Rattle.kat_model.specs.declared.expression.Rel.TheVariants.{Eq, Ne, Lt, Le, Gt, Ge}
use Rattle.linear_forms.specs.Arithmetic.{by_order}
use Rattle.flow_model.specs.Sorts.{State}
use Rattle.flow_model.specs.Interpretations.{Interpretation, conversion}
use Rattle.flow_forms.specs.Forms.{FlowFormTree, constant, term, factor, converted, form_tree}
use Rattle.flow_forms.specs.Values.{polynomial}
use Rattle.flow_forms.specs.Order.{sign_rank, form_cmp}
use Rattle.flow_forms.specs.Arithmetic.{form_sum, negative, form_difference}
use Rattle.flow_forms.specs.Conversions.{is_narrower, is_same_width, is_one, is_zero, is_alone}
use Rattle.flow_forms.specs.declared.comparison.FlowComparison.{FlowComparison}
use Rattle.flow_forms.specs.declared.comparison.FlowComparison.TheVariants.{Zero, Less, Same}
use Rattle.flow_forms.specs.declared.comparison.FlowLiteral.{FlowLiteral}
use Rattle.flow_forms.specs.declared.comparison.FlowLiteral.TheVariants.{Decided, Holds, Fails}

-- that a form of a width is 0, that one is less than another, or that two opaque values are the same
pub data FlowComparisonTree : Type 0 where
  zero_form : (w : Width) (f : FlowFormTree) → FlowComparisonTree
  less_form : (w : Width) (f g : FlowFormTree) → FlowComparisonTree
  same_form : (f g : FlowFormTree) → FlowComparisonTree

-- a condition that is decided, a comparison, or the negation of one
pub data FlowLiteralTree : Type 0 where
  decided : (b : Bool) → FlowLiteralTree
  holding : (c : FlowComparisonTree) → FlowLiteralTree
  failing : (c : FlowComparisonTree) → FlowLiteralTree

abbrev pub comparison_tree : FlowComparison → FlowComparisonTree
comparison_tree (Zero w f) = zero_form w (form_tree f)
comparison_tree (Less w f g) = less_form w (form_tree f) (form_tree g)
comparison_tree (Same f g) = same_form (form_tree f) (form_tree g)

-- whether two comparisons are one
abbrev pub is_same_comparison : FlowComparisonTree → FlowComparisonTree → Bool
is_same_comparison (zero_form v f) (zero_form w g) = is_same_width v w && is_eq (form_cmp f g)
is_same_comparison (less_form v d e) (less_form w f g) = is_same_width v w && is_eq (form_cmp d f) && is_eq (form_cmp e g)
is_same_comparison (same_form d e) (same_form f g) = is_eq (form_cmp d f) && is_eq (form_cmp e g)
is_same_comparison _ _ = false

abbrev pub literal_tree : FlowLiteral → FlowLiteralTree
literal_tree (Decided b) = decided b
literal_tree (Holds c) = holding (comparison_tree c)
literal_tree (Fails c) = failing (comparison_tree c)

-- whether a comparison holds in a state under an interpretation
abbrev pub comparison_holds : Interpretation → State → FlowComparisonTree → Bool
comparison_holds I s (zero_form w f) = nat_eq (polynomial I s f % modulus w) 0
comparison_holds I s (less_form w f g) = nat_lt (polynomial I s f % modulus w) (polynomial I s g % modulus w)
comparison_holds I s (same_form f g) = nat_eq (polynomial I s f) (polynomial I s g)

abbrev pub literal_holds : Interpretation → State → FlowLiteralTree → Bool
literal_holds I s (decided b) = b
literal_holds I s (holding c) = comparison_holds I s c
literal_holds I s (failing c) = not (comparison_holds I s c)

abbrev pub opposite : FlowLiteralTree → FlowLiteralTree
opposite (decided b) = decided (not b)
opposite (holding c) = failing c
opposite (failing c) = holding c

-- f or -f, the lesser
abbrev pub canonical : ℕ → FlowFormTree → FlowFormTree
canonical m f = by_order (form_cmp f (negative m f)) f f (negative m f)

-- The equation that a form of a width is 0.
pub record EquationTree : Type 0 where
  pub width : Width
  pub form : FlowFormTree

-- that the conversion of `g` from `v` to `w` is the number k of width w, as an equation: that g is the number of which k
-- is the conversion, or 1 = 0 if there is none
abbrev pub conversion_is : Bool → Width → Width → FlowFormTree → ℕ → EquationTree
conversion_is signed v w g k =
    if nat_eq (conversion signed v w (k % modulus v)) k
    then record { width = v; form = form_difference (modulus v) g (constant (k % modulus v)) }
    else record { width = w; form = constant 1 }

-- whether the numbers are 1 and m - 1, in either order
abbrev pub are_opposite : ℕ → ℕ → ℕ → Bool
are_opposite m t u = (nat_eq t 1 && nat_eq u (m - 1)) || (nat_eq t (m - 1) && nat_eq u 1)

abbrev pub is_same_sign : Bool → Bool → Bool
is_same_sign signed sign = nat_eq (sign_rank signed) (sign_rank sign)

-- whether two conversions are both signed or both not, and have the same widths
abbrev pub is_same_kind : Bool → Width → Width → Bool → Width → Width → Bool
is_same_kind signed v w sign x y = is_same_sign signed sign && is_same_width x v && is_same_width y w

-- whether a conversion keeps all bits and has this width
abbrev pub is_widening : Width → Width → Width → Bool
is_widening from to width = is_same_width to width && is_narrower from to

-- a multiple of a conversion of a form, which has the width `from`
pub record PartTree : Type 0 where
  pub times : ℕ
  pub signed : Bool
  pub from : Width
  pub form : FlowFormTree

-- the equation `e` of a multiple of a conversion and u times the cell `d`
abbrev pub second_cell : EquationTree → PartTree → ℕ → FlowFormTree → EquationTree
second_cell e part u (converted sign x y h) =
    if is_same_kind part.signed part.from e.width sign x y && are_opposite (modulus e.width) part.times u
    then record { width = part.from; form = form_difference (modulus part.from) part.form h }
    else e
second_cell e part u d = e

abbrev pub second_product : EquationTree → PartTree → ℕ → FlowFormTree → EquationTree
second_product e part u (factor d rest) = if is_one rest then second_cell e part u d else e
second_product e part u q = e

-- the equation `e` of a multiple of a conversion and the number c
abbrev pub with_number : EquationTree → PartTree → ℕ → EquationTree
with_number e part c =
    if nat_eq part.times 1
    then conversion_is part.signed part.from e.width part.form (((modulus e.width - 1) * c) % modulus e.width)
    else if nat_eq part.times (modulus e.width - 1)
    then conversion_is part.signed part.from e.width part.form (c % modulus e.width)
    else e

-- the equation `e` of a multiple of a conversion and the sum `rest`
abbrev pub after_part : EquationTree → PartTree → FlowFormTree → EquationTree
after_part e part (constant c) = with_number e part c
after_part e part (term u q end) = if is_zero end then second_product e part u q else e
after_part e part rest = e

abbrev pub first_cell : EquationTree → ℕ → FlowFormTree → FlowFormTree → EquationTree
first_cell e t rest (converted signed v w g) =
    if is_widening v w e.width
    then after_part e (record { times = t; signed = signed; from = v; form = g }) rest
    else e
first_cell e t rest c = e

abbrev pub first_product : EquationTree → ℕ → FlowFormTree → FlowFormTree → EquationTree
first_product e t rest (factor c end) = if is_one end then first_cell e t rest c else e
first_product e t rest p = e

-- an equation of conversions that keep all bits, as one of their own forms
abbrev pub narrower_equation : Width → FlowFormTree → EquationTree
narrower_equation w (term t p rest) = first_product (record { width = w; form = term t p rest }) t rest p
narrower_equation w f = record { width = w; form = f }

abbrev pub settled_equation : Width → FlowFormTree → FlowLiteralTree
settled_equation w (constant c) = decided (nat_eq (c % modulus w) 0)
settled_equation w f = holding (zero_form w (canonical (modulus w) f))

-- the condition that a form of a width is 0; there are four widths, so three steps lead to the least
abbrev pub zero_literal : Width → FlowFormTree → FlowLiteralTree
zero_literal w f =
    let first = narrower_equation w f in
    let second = narrower_equation first.width first.form in
    let third = narrower_equation second.width second.form in
    settled_equation third.width third.form

-- that a form of a width is less than a number
pub record BoundTree : Type 0 where
  pub width : Width
  pub form : FlowFormTree
  pub number : ℕ

-- 0 < 1
abbrev pub true_bound : Width → BoundTree
true_bound w = record { width = w; form = constant 0; number = 1 }

-- the bound of a conversion without sign of `g`, which has the width `v`
abbrev pub bounded_conversion : BoundTree → Width → FlowFormTree → BoundTree
bounded_conversion e v g =
    if nat_lt e.number (modulus v) then record { width = v; form = g; number = e.number } else true_bound e.width

abbrev pub is_unsigned_widening : Bool → Width → Width → Width → Bool
is_unsigned_widening signed from to width = not signed && is_widening from to width

abbrev pub bounded_cell : BoundTree → FlowFormTree → BoundTree
bounded_cell e (converted signed v w g) =
    if is_unsigned_widening signed v w e.width then bounded_conversion e v g else e
bounded_cell e c = e

abbrev pub bounded_product : BoundTree → FlowFormTree → BoundTree
bounded_product e (factor c rest) = if is_one rest then bounded_cell e c else e
bounded_product e p = e

-- a bound of a conversion without sign that keeps all bits, as one of its own form
abbrev pub narrower_bound : Width → FlowFormTree → ℕ → BoundTree
narrower_bound w (term t p rest) b =
    if is_alone t rest then bounded_product (record { width = w; form = term t p rest; number = b }) p
    else record { width = w; form = term t p rest; number = b }
narrower_bound w f b = record { width = w; form = f; number = b }

abbrev pub varying_bound : Width → FlowFormTree → ℕ → FlowLiteralTree
varying_bound w f b =
    if nat_eq b 0 then decided false
    else if nat_eq b 1 then zero_literal w f
    else if nat_eq b (modulus w - 1) then opposite (zero_literal w (form_sum (modulus w) f (constant 1)))
    else holding (less_form w f (constant b))

abbrev pub settled_bound : Width → FlowFormTree → ℕ → FlowLiteralTree
settled_bound w (constant c) b = decided (nat_lt (c % modulus w) b)
settled_bound w f b = varying_bound w f b

-- the condition that a form of a width is less than a number of this width
abbrev pub below_number : Width → FlowFormTree → ℕ → FlowLiteralTree
below_number w f b =
    let first = narrower_bound w f b in
    let second = narrower_bound first.width first.form first.number in
    let third = narrower_bound second.width second.form second.number in
    settled_bound third.width third.form third.number

-- the condition that a number is less than a form: not that the form is less than the next number
abbrev pub above_number : Width → ℕ → FlowFormTree → FlowLiteralTree
above_number w c g = if nat_eq c (modulus w - 1) then decided false else opposite (below_number w g (c + 1))

abbrev pub varying_less : Width → FlowFormTree → FlowFormTree → FlowLiteralTree
varying_less w f g = if is_eq (form_cmp f g) then decided false else holding (less_form w f g)

abbrev pub less_than : Width → FlowFormTree → FlowFormTree → FlowLiteralTree
less_than w f (constant d) = below_number w f (d % modulus w)
less_than w f g = varying_less w f g

-- the condition that a form of a width is less than another
abbrev pub less_literal : Width → FlowFormTree → FlowFormTree → FlowLiteralTree
less_literal w (constant c) g = above_number w (c % modulus w) g
less_literal w f g = less_than w f g

-- the condition that two opaque values are the same
abbrev pub same_literal : FlowFormTree → FlowFormTree → FlowLiteralTree
same_literal f g = by_order (form_cmp f g) (holding (same_form f g)) (decided true) (holding (same_form g f))

-- a comparison of two numbers of a width
abbrev pub compared_numbers : Width → Rel → FlowFormTree → FlowFormTree → FlowLiteralTree
compared_numbers w Eq f g = zero_literal w (form_difference (modulus w) f g)
compared_numbers w Ne f g = opposite (zero_literal w (form_difference (modulus w) f g))
compared_numbers w Lt f g = less_literal w f g
compared_numbers w Gt f g = less_literal w g f
compared_numbers w Ge f g = opposite (less_literal w f g)
compared_numbers w Le f g = opposite (less_literal w g f)

-- a form moved so that two's complements are compared as numbers
abbrev pub biased_form : Width → FlowFormTree → FlowFormTree
biased_form w f = form_sum (modulus w) f (constant (2 ^ (bits w - 1)))

abbrev pub compared_signed : Width → Rel → FlowFormTree → FlowFormTree → FlowLiteralTree
compared_signed w rel f g = compared_numbers w rel (biased_form w f) (biased_form w g)
