-- The forms of expressions over forms of the variables.
use Rattle.std.specs.Prelude.{◌≡◌, ℕ, ◌%◌, Bool, true, false, List, Option, Some, None, slice_get, slice_index_or}
use Rattle.kat_model.specs.Stores.{modulus}
use Rattle.kat_model.specs.declared.expression.Width.TheVariants.{W64}
use Rattle.flow_model.specs.declared.sort.Sort.{Sort}
use Rattle.flow_model.specs.declared.sort.Sort.TheVariants.{Number, Opaque}
use Rattle.flow_model.specs.Sorts.{State}
use Rattle.flow_model.specs.Interpretations.{Interpretation}
use Rattle.flow_model.specs.Expressions.{ExprTree}
use Rattle.flow_model.specs.Expressions as expr
use Rattle.flow_forms.specs.Forms.{FlowFormTree, constant, applied, no_arguments, argument, cell_form}
use Rattle.flow_forms.specs.Values.{form_value}
use Rattle.flow_forms.specs.Arithmetic.{form_sum, form_difference, form_product}
use Rattle.flow_forms.specs.Conversions.{form_conversion}

abbrev pub or_number : Option Sort → Sort
or_number None = Number W64
or_number (Some sort) = sort

-- the sort of an expression, with the sorts of the variables
abbrev pub sort_of : List Sort → ExprTree → Sort
sort_of sorts (expr.number w n) = Number w
sort_of sorts (expr.variable k) = or_number (slice_get sorts k)
sort_of sorts (expr.plus w e f) = Number w
sort_of sorts (expr.minus w e f) = Number w
sort_of sorts (expr.times w e f) = Number w
sort_of sorts (expr.converted signed from to e) = Number to
sort_of sorts (expr.applied f result args) = result
sort_of sorts expr.no_arguments = Number W64
sort_of sorts (expr.argument e rest) = Number W64

-- Each operand has the sort that its place requires. `true` is for arguments, `false` for one expression.
abbrev pub IsSorted : List Sort → Bool → ExprTree → Type 0
IsSorted sorts false (expr.number w n) = Unit {0}
IsSorted sorts false (expr.variable k) = (sort : Sort) × (slice_get sorts k ≡ Some sort)
IsSorted sorts false (expr.plus w e f) = IsSorted sorts false e × IsSorted sorts false f × (sort_of sorts e ≡ Number w) × (sort_of sorts f ≡ Number w)
IsSorted sorts false (expr.minus w e f) = IsSorted sorts false e × IsSorted sorts false f × (sort_of sorts e ≡ Number w) × (sort_of sorts f ≡ Number w)
IsSorted sorts false (expr.times w e f) = IsSorted sorts false e × IsSorted sorts false f × (sort_of sorts e ≡ Number w) × (sort_of sorts f ≡ Number w)
IsSorted sorts false (expr.converted signed from to e) = IsSorted sorts false e × (sort_of sorts e ≡ Number from)
IsSorted sorts false (expr.applied f result args) = IsSorted sorts true args
IsSorted sorts true expr.no_arguments = Unit {0}
IsSorted sorts true (expr.argument e rest) = IsSorted sorts false e × IsSorted sorts true rest
IsSorted sorts _ _ = ⊥

-- the form of a sort that is one cell
abbrev pub form_of_cell : Sort → FlowFormTree → FlowFormTree
form_of_cell (Number w) c = cell_form c
form_of_cell (Opaque k) c = c

abbrev pub or_zero : Option FlowFormTree → FlowFormTree
or_zero None = constant 0
or_zero (Some f) = f

-- the form of an expression, with the sorts and the forms of the variables
abbrev pub form_of : List Sort → List FlowFormTree → ExprTree → FlowFormTree
form_of sorts env (expr.number w n) = constant (n % modulus w)
form_of sorts env (expr.variable k) = or_zero (slice_get env k)
form_of sorts env (expr.plus w e f) = form_sum (modulus w) (form_of sorts env e) (form_of sorts env f)
form_of sorts env (expr.minus w e f) = form_difference (modulus w) (form_of sorts env e) (form_of sorts env f)
form_of sorts env (expr.times w e f) = form_product (modulus w) (form_of sorts env e) (form_of sorts env f)
form_of sorts env (expr.converted signed from to e) = form_conversion signed from to (form_of sorts env e)
form_of sorts env (expr.applied f result args) = form_of_cell result (applied f result (form_of sorts env args))
form_of sorts env expr.no_arguments = no_arguments
form_of sorts env (expr.argument e rest) = argument (sort_of sorts e) (form_of sorts env e) (form_of sorts env rest)

-- each variable of the state `t` has the value that its form has in the state `s`
abbrev pub HasForms : Interpretation → State → List Sort → List FlowFormTree → State → Type 0
HasForms I s sorts env t =
    (k : ℕ) → slice_index_or t k 0 ≡ form_value I s (or_number (slice_get sorts k)) (or_zero (slice_get env k))
