-- Forms in place of variables.
use Rattle.std.specs.Prelude.{ℕ, Bool, true, false, ◌&&◌, List, slice_get, if◌then◌else◌}
use Rattle.kat_model.specs.Stores.{modulus}
use Rattle.flow_model.specs.declared.sort.Sort.{Sort}
use Rattle.flow_model.specs.declared.sort.Sort.TheVariants.{Number, Opaque}
use Rattle.flow_forms.specs.Forms.{FlowFormTree, constant, term, one, factor, variable, applied, converted, no_arguments, argument}
use Rattle.flow_forms.specs.Arithmetic.{form_sum, multiple, form_product}
use Rattle.flow_forms.specs.Conversions.{is_same_width, form_conversion}
use Rattle.flow_forms.specs.Comparisons.{FlowComparisonTree, zero_form, less_form, same_form, FlowLiteralTree, zero_literal, less_literal, same_literal}
use Rattle.flow_forms.specs.Sizes.{is_small, product_fits, conversion_fits}
use Rattle.flow_forms.specs.declared.substitution.Place.{Place}
use Rattle.flow_forms.specs.declared.substitution.Place.TheVariants as place
use Rattle.flow_forms.specs.Expressions.{or_number, or_zero, form_of_cell}

abbrev pub place_of : Sort → Place
place_of (Number w) = place.InNumber w
place_of (Opaque k) = place.AsValue

-- a form of a sort in the place of a cell of this sort; the cell of another sort stays a cell
abbrev pub cell_in : Place → Sort → FlowFormTree → FlowFormTree
cell_in (place.InNumber w) (Number v) f = if is_same_width v w then f else form_conversion false v w f
cell_in (place.InNumber w) (Opaque k) f = f
cell_in place.AsValue (Number v) f = argument (Number v) f no_arguments
cell_in place.AsValue (Opaque k) f = f
cell_in place.AsArgument sort f = argument sort f no_arguments

abbrev pub sum_in : Place → ℕ → FlowFormTree → FlowFormTree → FlowFormTree
sum_in (place.InNumber w) t p rest = form_sum (modulus w) (multiple (modulus w) t p) rest
sum_in place.AsValue t p rest = term t p rest
sum_in place.AsArgument t p rest = term t p rest

abbrev pub one_in : Place → FlowFormTree
one_in (place.InNumber w) = constant 1
one_in place.AsValue = one
one_in place.AsArgument = one

abbrev pub product_in : Place → FlowFormTree → FlowFormTree → FlowFormTree
product_in (place.InNumber w) c rest = form_product (modulus w) c rest
product_in place.AsValue c rest = factor c rest
product_in place.AsArgument c rest = factor c rest

-- a form with forms in place of its variables, whose sorts are given; sums and products are multiplied out anew
abbrev pub substituted : List Sort → List FlowFormTree → Place → FlowFormTree → FlowFormTree
substituted sorts env spot (constant c) = constant c
substituted sorts env spot (term t p rest) =
    sum_in spot t (substituted sorts env spot p) (substituted sorts env spot rest)
substituted sorts env spot one = one_in spot
substituted sorts env spot (factor c rest) =
    product_in spot (substituted sorts env spot c) (substituted sorts env spot rest)
substituted sorts env spot (variable k) = cell_in spot (or_number (slice_get sorts k)) (or_zero (slice_get env k))
substituted sorts env spot (applied f result args) =
    cell_in spot result (form_of_cell result (applied f result (substituted sorts env place.AsArgument args)))
substituted sorts env spot (converted signed from to f) =
    cell_in spot (Number to) (form_conversion signed from to (substituted sorts env (place.InNumber from) f))
substituted sorts env spot no_arguments = no_arguments
substituted sorts env spot (argument sort f rest) =
    argument sort (substituted sorts env (place_of sort) f) (substituted sorts env place.AsArgument rest)

-- the condition that a comparison holds of the forms
abbrev pub comparison_after : List Sort → List FlowFormTree → FlowComparisonTree → FlowLiteralTree
comparison_after sorts env (zero_form w f) = zero_literal w (substituted sorts env (place.InNumber w) f)
comparison_after sorts env (less_form w f g) =
    less_literal w (substituted sorts env (place.InNumber w) f) (substituted sorts env (place.InNumber w) g)
comparison_after sorts env (same_form f g) =
    same_literal (substituted sorts env place.AsValue f) (substituted sorts env place.AsValue g)

-- whether a product in its place is small, and may be multiplied out
abbrev pub product_fits_in : Place → FlowFormTree → FlowFormTree → Bool
product_fits_in (place.InNumber w) c rest = product_fits w c rest
product_fits_in place.AsValue c rest = is_small (factor c rest)
product_fits_in place.AsArgument c rest = is_small (factor c rest)

abbrev pub cell_fits_in : Place → Sort → FlowFormTree → Bool
cell_fits_in (place.InNumber w) (Number v) f = if is_same_width v w then true else conversion_fits false v w f
cell_fits_in (place.InNumber w) (Opaque k) f = true
cell_fits_in place.AsValue sort f = true
cell_fits_in place.AsArgument sort f = true

-- whether no form of the substitution or of a part of it is too large
abbrev pub substitution_fits : List Sort → List FlowFormTree → Place → FlowFormTree → Bool
substitution_fits sorts env spot (constant c) = true
substitution_fits sorts env spot (term t p rest) =
    substitution_fits sorts env spot p && (substitution_fits sorts env spot rest && is_small (sum_in spot t (substituted sorts env spot p) (substituted sorts env spot rest)))
substitution_fits sorts env spot one = true
substitution_fits sorts env spot (factor c rest) =
    substitution_fits sorts env spot c && (substitution_fits sorts env spot rest && product_fits_in spot (substituted sorts env spot c) (substituted sorts env spot rest))
substitution_fits sorts env spot (variable k) = cell_fits_in spot (or_number (slice_get sorts k)) (or_zero (slice_get env k))
substitution_fits sorts env spot (applied f result args) =
    substitution_fits sorts env place.AsArgument args
    && (is_small (form_of_cell result (applied f result (substituted sorts env place.AsArgument args)))
    && cell_fits_in spot result (form_of_cell result (applied f result (substituted sorts env place.AsArgument args))))
substitution_fits sorts env spot (converted signed from to f) =
    substitution_fits sorts env (place.InNumber from) f
    && (conversion_fits signed from to (substituted sorts env (place.InNumber from) f)
    && cell_fits_in spot (Number to) (form_conversion signed from to (substituted sorts env (place.InNumber from) f)))
substitution_fits sorts env spot no_arguments = true
substitution_fits sorts env spot (argument sort f rest) =
    substitution_fits sorts env (place_of sort) f && substitution_fits sorts env place.AsArgument rest
