-- The text of forms and comparisons.
use Rattle.std.specs.Prelude.{ℕ, ◌+◌, ◌-◌, List, [], ◌++◌, codes, Bool, true, false, not, ◌&&◌, nat_eq, nat_lt, if◌then◌else◌}
use Rattle.std.specs.Fmt.{decimal}
use Rattle.kat_model.specs.Stores.{modulus}
use Rattle.kat_model.specs.declared.expression.Width.{Width}
use Rattle.kat_model.specs.declared.expression.Width.TheVariants.{W8, W16, W32, W64}
use Rattle.flow_forms.specs.Forms.{FlowFormTree, constant, term, one, factor, variable, applied, converted, no_arguments, argument, form_nodes}
use Rattle.flow_forms.specs.Comparisons.{FlowComparisonTree, zero_form, less_form, same_form}
use Rattle.flow_print.specs.declared.limits.TheConstants.{MAX_SHOWN_NODES}
use Rattle.flow_print.specs.NameTables.{NameTable, variable_text, function_text, sort_width}

-- ---- numbers modulo 2 to a width

-- whether a number is nearer to 2 to the width than to 0; it is then written with a minus
abbrev pub is_minus : Width → ℕ → Bool
is_minus w n = nat_lt (modulus w) (n + n) && nat_lt n (modulus w)

-- the number without its minus
abbrev pub magnitude : Width → ℕ → ℕ
magnitude w n = if is_minus w n then modulus w - n else n

-- ---- forms

-- the text before the parts of a list, a product and a sum, unless the part is the first
abbrev pub comma_text : Bool → List ℕ
comma_text first = if first then [] else codes ", "

abbrev pub star_text : Bool → List ℕ
star_text first = if first then [] else codes "*"

abbrev pub plus_text : Bool → List ℕ
plus_text first = if first then [] else codes " + "

-- the text before a part with a minus
abbrev pub minus_text : Bool → List ℕ
minus_text first = if first then codes "0 - " else codes " - "

-- the sign before a part with this coefficient
abbrev pub sign_text : Width → Bool → ℕ → List ℕ
sign_text w first t = if is_minus w t then minus_text first else plus_text first

-- a coefficient before its product; 1 is not written
abbrev pub times_text : ℕ → List ℕ
times_text t = if nat_eq t 1 then [] else decimal t ++ codes "*"

-- the constant of a sum; after a term it has a sign, and 0 is not written
abbrev pub constant_text : Width → Bool → ℕ → List ℕ
constant_text w first c = if first then decimal c else if nat_eq c 0 then [] else sign_text w false c ++ decimal (magnitude w c)

-- the product of no cells; after a cell it is not written
abbrev pub one_text : Bool → List ℕ
one_text first = if first then codes "1" else []

-- the word of a conversion, such as u32 or s32
abbrev pub width_text : Width → List ℕ
width_text W8 = codes "8"
width_text W16 = codes "16"
width_text W32 = codes "32"
width_text W64 = codes "64"

abbrev pub conversion_text : Bool → Width → List ℕ
conversion_text signed to = (if signed then codes "s" else codes "u") ++ width_text to

-- whether an application has too many nodes to be written with its arguments
abbrev pub is_long : FlowFormTree → Bool
is_long args = nat_lt MAX_SHOWN_NODES (form_nodes args + 1)

-- a part of a form of a width, which may be the first of its sum, product or list; the form of an argument has the width
-- of its sort
abbrev pub part_text : NameTable → Width → Bool → FlowFormTree → List ℕ
part_text names w first (constant c) = constant_text w first c
part_text names w first (term t p rest) = sign_text w first t ++ times_text (magnitude w t) ++ part_text names w true p ++ part_text names w false rest
part_text names w first one = one_text first
part_text names w first (factor c rest) = star_text first ++ part_text names w true c ++ part_text names w false rest
part_text names w first (variable k) = variable_text names k
part_text names w first (applied f result args) = function_text names f ++ (if is_long args then codes "(..)" else codes "(" ++ part_text names W64 true args ++ codes ")")
part_text names w first (converted signed from to f) = conversion_text signed to ++ codes "(" ++ part_text names from true f ++ codes ")"
part_text names w first no_arguments = []
part_text names w first (argument sort f rest) = comma_text first ++ part_text names (sort_width sort) true f ++ part_text names w false rest

-- the arguments of an application
abbrev pub arguments_text : NameTable → FlowFormTree → List ℕ
arguments_text names args = if is_long args then codes "(..)" else codes "(" ++ part_text names W64 true args ++ codes ")"

abbrev pub form_text : NameTable → Width → FlowFormTree → List ℕ
form_text names w f = part_text names w true f

-- ---- comparisons

-- Whether the constant of an equation is written on its right, as what is missing to 2 to the width: numbers with a
-- minus, and all bytes but 0.
abbrev pub moves_right : Width → ℕ → Bool
moves_right W8 c = nat_lt 0 c && nat_lt c 256
moves_right w c = is_minus w c

-- the number that is written on a side, the right one or the left one, for the constant of an equation
abbrev pub side_number : Width → Bool → ℕ → ℕ
side_number w true c = if moves_right w c then modulus w - c else 0
side_number w false c = if moves_right w c then 0 else c

-- the number at the end of a side, which is not written if it is 0 and there is a term
abbrev pub side_end : Bool → ℕ → List ℕ
side_end first n = if not first && nat_eq n 0 then [] else plus_text first ++ decimal n

-- whether a term, with a minus or not, is written on a side
abbrev pub is_on_side : Bool → Bool → Bool
is_on_side true minus = minus
is_on_side false minus = not minus

-- the parts of a sum that are written on a side of the equation that the sum is 0: on the right those with a minus
abbrev pub side_text : NameTable → Width → Bool → Bool → FlowFormTree → List ℕ
side_text names w right first (constant c) = side_end first (side_number w right c)
side_text names w right first (term t p rest) =
    if is_on_side right (is_minus w t)
    then plus_text first ++ times_text (magnitude w t) ++ part_text names w true p ++ side_text names w right false rest
    else side_text names w right first rest
side_text names w right first f = part_text names w first f

abbrev pub comparison_text : NameTable → FlowComparisonTree → List ℕ
comparison_text names (zero_form w f) = side_text names w false true f ++ codes " == " ++ side_text names w true true f
comparison_text names (less_form w f g) = form_text names w f ++ codes " < " ++ form_text names w g
comparison_text names (same_form f g) = form_text names W64 f ++ codes " == " ++ form_text names W64 g
