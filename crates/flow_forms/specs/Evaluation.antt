-- Expressions in Polish notation are evaluated to forms from the last node to the first, over a stack of forms: the
-- arguments of a function.
use Rattle.std.specs.Prelude.{ℕ, zero, suc, ◌%◌, ◌&&◌, Bool, true, List, [], ◌∷◌, slice_get}
use Rattle.kat_model.specs.Stores.{modulus}
use Rattle.kat_model.specs.declared.expression.Width.TheVariants.{W64}
use Rattle.flow_model.specs.declared.sort.Sort.{Sort}
use Rattle.flow_model.specs.declared.sort.Sort.TheVariants.{Number}
use Rattle.flow_model.specs.declared.graph.ExprNode.{ExprNode}
use Rattle.flow_model.specs.declared.graph.ExprNode.TheVariants as node
use Rattle.flow_model.specs.Expressions.{ExprTree}
use Rattle.flow_model.specs.Expressions as expr
use Rattle.flow_forms.specs.Forms.{FlowFormTree, constant, applied, no_arguments, argument}
use Rattle.flow_forms.specs.Arithmetic.{form_sum, form_difference, form_product}
use Rattle.flow_forms.specs.Conversions.{form_conversion}
use Rattle.flow_forms.specs.Expressions.{or_number, or_zero, sort_of, form_of_cell, form_of}
use Rattle.flow_forms.specs.Sizes.{is_small, product_fits, conversion_fits}

-- whether no form of the expression or of a part of it is too large
abbrev pub expr_fits : List Sort → List FlowFormTree → ExprTree → Bool
expr_fits sorts env (expr.number w n) = true
expr_fits sorts env (expr.variable k) = true
expr_fits sorts env (expr.plus w e f) =
    (expr_fits sorts env e && expr_fits sorts env f) && is_small (form_sum (modulus w) (form_of sorts env e) (form_of sorts env f))
expr_fits sorts env (expr.minus w e f) =
    (expr_fits sorts env e && expr_fits sorts env f) && is_small (form_difference (modulus w) (form_of sorts env e) (form_of sorts env f))
expr_fits sorts env (expr.times w e f) =
    (expr_fits sorts env e && expr_fits sorts env f) && product_fits w (form_of sorts env e) (form_of sorts env f)
expr_fits sorts env (expr.converted signed from to e) =
    expr_fits sorts env e && conversion_fits signed from to (form_of sorts env e)
expr_fits sorts env (expr.applied f result args) =
    expr_fits sorts env args && is_small (form_of_cell result (applied f result (form_of sorts env args)))
expr_fits sorts env expr.no_arguments = true
expr_fits sorts env (expr.argument e rest) = expr_fits sorts env e && expr_fits sorts env rest

-- the forms of expressions, as a stack
abbrev pub forms_of : List Sort → List FlowFormTree → List ExprTree → FlowFormTree
forms_of sorts env [] = no_arguments
forms_of sorts env (e ∷ es) = argument (sort_of sorts e) (form_of sorts env e) (forms_of sorts env es)

abbrev pub all_fit : List Sort → List FlowFormTree → List ExprTree → Bool
all_fit sorts env [] = true
all_fit sorts env (e ∷ es) = expr_fits sorts env e && all_fit sorts env es

-- the sort and the form on top of a stack, and the stack below them
abbrev pub top_sort : FlowFormTree → Sort
top_sort (argument sort f rest) = sort
top_sort st = Number W64

abbrev pub top_form : FlowFormTree → FlowFormTree
top_form (argument sort f rest) = f
top_form st = no_arguments

abbrev pub below : FlowFormTree → FlowFormTree
below (argument sort f rest) = rest
below st = no_arguments

-- the first forms of a stack, and the stack without them
abbrev pub first_arguments : ℕ → FlowFormTree → FlowFormTree
first_arguments zero st = no_arguments
first_arguments (suc n) st = argument (top_sort st) (top_form st) (first_arguments n (below st))

abbrev pub without : ℕ → FlowFormTree → FlowFormTree
without zero st = st
without (suc n) st = without n (below st)

-- a node over the forms of its operands, which are the first of the stack
abbrev pub node_form : List Sort → List FlowFormTree → ExprNode → FlowFormTree → FlowFormTree
node_form sorts env (node.Number w n) st = argument (Number w) (constant (n % modulus w)) st
node_form sorts env (node.Variable k) st = argument (or_number (slice_get sorts k)) (or_zero (slice_get env k)) st
node_form sorts env (node.Plus w) st =
    argument (Number w) (form_sum (modulus w) (top_form st) (top_form (below st))) (below (below st))
node_form sorts env (node.Minus w) st =
    argument (Number w) (form_difference (modulus w) (top_form st) (top_form (below st))) (below (below st))
node_form sorts env (node.Times w) st =
    argument (Number w) (form_product (modulus w) (top_form st) (top_form (below st))) (below (below st))
node_form sorts env (node.Converted signed from to) st =
    argument (Number to) (form_conversion signed from to (top_form st)) (below st)
node_form sorts env (node.Applied f result n) st =
    argument result (form_of_cell result (applied f result (first_arguments n st))) (without n st)

abbrev pub node_fits : ExprNode → FlowFormTree → Bool
node_fits (node.Number w n) st = true
node_fits (node.Variable k) st = true
node_fits (node.Plus w) st = is_small (form_sum (modulus w) (top_form st) (top_form (below st)))
node_fits (node.Minus w) st = is_small (form_difference (modulus w) (top_form st) (top_form (below st)))
node_fits (node.Times w) st = product_fits w (top_form st) (top_form (below st))
node_fits (node.Converted signed from to) st = conversion_fits signed from to (top_form st)
node_fits (node.Applied f result n) st = is_small (form_of_cell result (applied f result (first_arguments n st)))
