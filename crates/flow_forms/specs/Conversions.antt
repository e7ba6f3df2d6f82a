-- Conversions of forms from one width to another.
use Rattle.std.specs.Prelude.{ℕ, ◌%◌, ◌&&◌, ◌||◌, not, nat_eq, nat_lt, Bool, true, false, if◌then◌else◌}
use Rattle.kat_model.specs.Stores.{bits, modulus}
use Rattle.kat_model.specs.declared.expression.Width.{Width}
use Rattle.flow_model.specs.Interpretations.{conversion}
use Rattle.flow_forms.specs.Forms.{FlowFormTree, constant, term, one, factor, converted, cell_form}
use Rattle.flow_forms.specs.Arithmetic.{multiple, form_sum, form_product}

-- whether the first width has fewer bits
abbrev pub is_narrower : Width → Width → Bool
is_narrower v w = nat_lt (bits v) (bits w)

abbrev pub is_same_width : Width → Width → Bool
is_same_width v w = nat_eq (bits v) (bits w)

-- a conversion of `f` from one width to a third of at most as many bits as the second: `short` is `f` with the bits of
-- the third
abbrev pub shortened : Bool → Width → Width → FlowFormTree → FlowFormTree → FlowFormTree
shortened signed from to f short =
    if is_narrower to from then short
    else if is_narrower from to then cell_form (converted signed from to f)
    else f

-- a form with the bits of the width `to`, which has fewer than its own: it is the conversion of its cells. A conversion
-- that is converted again is one from the first width.
abbrev pub truncated : Width → Width → FlowFormTree → FlowFormTree
truncated from to (constant c) = constant (c % modulus to)
truncated from to (term t p rest) =
    form_sum (modulus to) (multiple (modulus to) t (truncated from to p)) (truncated from to rest)
truncated from to one = constant 1
truncated from to (factor c rest) = form_product (modulus to) (truncated from to c) (truncated from to rest)
truncated from to (converted signed v w f) =
    if is_same_width w from then shortened signed v to f (truncated v to f)
    else cell_form (converted false from to (cell_form (converted signed v w f)))
truncated from to f = cell_form (converted false from to (cell_form f))

-- whether a product has no cells
abbrev pub is_one : FlowFormTree → Bool
is_one one = true
is_one p = false

abbrev pub is_zero : FlowFormTree → Bool
is_zero (constant c) = nat_eq c 0
is_zero f = false

-- whether a term with this coefficient before this sum is its product alone
abbrev pub is_alone : ℕ → FlowFormTree → Bool
is_alone t rest = nat_eq t 1 && is_zero rest

-- whether a conversion from `v` to `w` keeps all bits and may be converted from its own form: one without sign at any
-- time, and one with sign by one with sign
abbrev pub is_kept : Bool → Width → Bool → Width → Width → Bool
is_kept signed from inner v w = is_same_width w from && is_narrower v w && (signed || not inner)

-- the conversion of a form that is the cell `c` to a width of more bits
abbrev pub widened_cell : Bool → Width → Width → FlowFormTree → FlowFormTree → FlowFormTree
widened_cell signed from to f (converted inner v w g) =
    if is_kept signed from inner v w then cell_form (converted inner v to g) else cell_form (converted signed from to f)
widened_cell signed from to f c = cell_form (converted signed from to f)

-- the same of a form that is the product `p`
abbrev pub widened_product : Bool → Width → Width → FlowFormTree → FlowFormTree → FlowFormTree
widened_product signed from to f (factor c rest) =
    if is_one rest then widened_cell signed from to f c else cell_form (converted signed from to f)
widened_product signed from to f p = cell_form (converted signed from to f)

abbrev pub widened : Bool → Width → Width → FlowFormTree → FlowFormTree
widened signed from to (term t p rest) =
    if is_alone t rest then widened_product signed from to (term t p rest) p
    else cell_form (converted signed from to (term t p rest))
widened signed from to f = cell_form (converted signed from to f)

-- the conversion of a form that is not a constant
abbrev pub sum_conversion : Bool → Width → Width → FlowFormTree → FlowFormTree
sum_conversion signed from to f =
    if is_narrower to from then truncated from to f
    else if is_narrower from to then widened signed from to f
    else f

-- the conversion of a form; that of a number is a number
abbrev pub form_conversion : Bool → Width → Width → FlowFormTree → FlowFormTree
form_conversion signed from to (constant c) = constant (conversion signed from to (c % modulus from))
form_conversion signed from to f = sum_conversion signed from to f
