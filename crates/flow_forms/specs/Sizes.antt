-- What is refused before it becomes too large. Counts are at most 2^64 - 1.
use Rattle.std.specs.Prelude.{ℕ, ◌+◌, ◌*◌, nat_le, ◌&&◌, Bool, true, if◌then◌else◌}
use Rattle.kat_model.specs.Problems.{counted}
use Rattle.kat_model.specs.declared.expression.Width.{Width}
use Rattle.flow_forms.specs.declared.limits.TheConstants.{MAX_FORM_NODES, MAX_FORM_PARTS}
use Rattle.flow_forms.specs.Forms.{FlowFormTree, term, factor, converted, form_nodes}
use Rattle.kat_model.specs.Stores.{modulus}
use Rattle.flow_forms.specs.Arithmetic.{form_product}
use Rattle.flow_forms.specs.Conversions.{is_narrower, is_same_width, form_conversion}

-- the number of parts of a sum: its terms and its constant
abbrev pub part_count : FlowFormTree → ℕ
part_count (term t p rest) = counted (part_count rest + 1)
part_count f = 1

-- the parts of a conversion of `f` from a width to `to`, of which `n` are written if it has fewer bits
abbrev pub shortened_parts : Width → Width → FlowFormTree → ℕ → ℕ
shortened_parts from to f n =
    if is_narrower to from then n else if is_narrower from to then 1 else part_count f

-- the number of parts that are written when a form is given fewer bits, with its products multiplied out
abbrev pub truncated_parts : Width → Width → FlowFormTree → ℕ
truncated_parts from to (term t p rest) = counted (truncated_parts from to p + truncated_parts from to rest)
truncated_parts from to (factor c rest) = counted (truncated_parts from to c * truncated_parts from to rest)
truncated_parts from to (converted signed v w f) =
    if is_same_width w from then shortened_parts v to f (truncated_parts v to f) else 1
truncated_parts from to f = 1

-- whether a form is within the limit of nodes
abbrev pub is_small : FlowFormTree → Bool
is_small f = nat_le (form_nodes f) MAX_FORM_NODES

-- whether the product of two forms may be multiplied out
abbrev pub can_multiply : FlowFormTree → FlowFormTree → Bool
can_multiply f g = nat_le (counted (part_count f * part_count g)) MAX_FORM_PARTS

-- whether a form may be converted
abbrev pub can_convert : Width → Width → FlowFormTree → Bool
can_convert from to f = if is_narrower to from then nat_le (truncated_parts from to f) MAX_FORM_PARTS else true

-- whether the product of two forms of a width is small, and may be multiplied out
abbrev pub product_fits : Width → FlowFormTree → FlowFormTree → Bool
product_fits w f g = can_multiply f g && is_small (form_product (modulus w) f g)

-- whether the conversion of a form is small, and may be multiplied out
abbrev pub conversion_fits : Bool → Width → Width → FlowFormTree → Bool
conversion_fits signed from to f = can_convert from to f && is_small (form_conversion signed from to f)
