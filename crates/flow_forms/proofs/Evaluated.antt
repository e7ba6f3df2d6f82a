-- The forms of nodes over a stack are those of the expressions.
use Rattle.std.proofs.Common.{◌≡◌, ℕ, zero, suc, ◌&&◌, Bool, true, false, List, [], ◌∷◌, drop, map, Some, None, slice_get, option_map, refl, sym, ◌∙◌, ap}
use mathlib.Core.Path.{ap₂}
use Rattle.std.proofs.lemmas.Option.{slice_get-map}
use Rattle.flow_model.specs.declared.sort.Sort.{Sort}
use Rattle.flow_model.specs.declared.graph.ExprNode.{ExprNode}
use Rattle.flow_model.specs.declared.graph.ExprNode.TheVariants as node
use Rattle.flow_model.specs.Expressions.{ExprTree}
use Rattle.flow_model.specs.Polish.{first_expr, arguments_of, with_node}
use Rattle.flow_forms.specs.Forms.{FlowFormTree, constant, applied, no_arguments, argument, form_tree}
use Rattle.flow_forms.specs.declared.form.FlowForm.{FlowForm}
use Rattle.flow_forms.specs.Expressions.{or_zero, sort_of, form_of_cell, form_of}
use Rattle.flow_forms.specs.Sizes.{is_small}
use Rattle.flow_forms.specs.Evaluation.{expr_fits, forms_of, all_fit, top_sort, top_form, first_arguments, without, node_form, node_fits}

and_true : (b : Bool) → (true && b) ≡ (b && true)
and_true true = refl
and_true false = refl

swapped : (a c d : Bool) → ((a && c) && d) ≡ ((a && d) && c)
swapped true true true = refl
swapped true true false = refl
swapped true false true = refl
swapped true false false = refl
swapped false c d = refl

regrouped : (a b c : Bool) → ((a && b) && c) ≡ (a && (b && c))
regrouped true b c = refl
regrouped false b c = refl

-- two operands, a node and the others
moved : (a b c d : Bool) → (((a && b) && c) && d) ≡ ((a && (b && d)) && c)
moved a b c d = swapped (a && b) c d ∙ ap (λ x. x && c) (regrouped a b d)

-- arguments

first_forms : (sorts : List Sort) (env : List FlowFormTree) (n : ℕ) (es : List ExprTree) → form_of sorts env (arguments_of n es) ≡ first_arguments n (forms_of sorts env es)
first_forms sorts env zero es = refl
first_forms sorts env (suc n) [] = ap (λ f. argument (top_sort no_arguments) no_arguments f) (first_forms sorts env n [])
first_forms sorts env (suc n) (e ∷ es) = ap (λ f. argument (sort_of sorts e) (form_of sorts env e) f) (first_forms sorts env n es)

without_none : (n : ℕ) → no_arguments ≡ without n no_arguments
without_none zero = refl
without_none (suc n) = without_none n

other_forms : (sorts : List Sort) (env : List FlowFormTree) (n : ℕ) (es : List ExprTree) → forms_of sorts env (drop n es) ≡ without n (forms_of sorts env es)
other_forms sorts env zero es = refl
other_forms sorts env (suc n) [] = without_none n
other_forms sorts env (suc n) (e ∷ es) = other_forms sorts env n es

none_fit : (sorts : List Sort) (env : List FlowFormTree) (n : ℕ) → expr_fits sorts env (arguments_of n []) ≡ true
none_fit sorts env zero = refl
none_fit sorts env (suc n) = none_fit sorts env n

parts_fit : (sorts : List Sort) (env : List FlowFormTree) (n : ℕ) (es : List ExprTree) → (expr_fits sorts env (arguments_of n es) && all_fit sorts env (drop n es)) ≡ all_fit sorts env es
parts_fit sorts env zero es = refl
parts_fit sorts env (suc n) [] = ap (λ b. b && true) (none_fit sorts env n)
parts_fit sorts env (suc n) (e ∷ es) =
    regrouped (expr_fits sorts env e) (expr_fits sorts env (arguments_of n es)) (all_fit sorts env (drop n es))
    ∙ ap (λ b. expr_fits sorts env e && b) (parts_fit sorts env n es)

-- nodes

pub forms_with_node : (sorts : List Sort) (env : List FlowFormTree) (n : ExprNode) (es : List ExprTree) → forms_of sorts env (with_node n es) ≡ node_form sorts env n (forms_of sorts env es)
forms_with_node sorts env (node.Number w n) es = refl
forms_with_node sorts env (node.Variable k) es = refl
forms_with_node sorts env (node.Plus w) [] = refl
forms_with_node sorts env (node.Plus w) (e ∷ []) = refl
forms_with_node sorts env (node.Plus w) (e ∷ (f ∷ es)) = refl
forms_with_node sorts env (node.Minus w) [] = refl
forms_with_node sorts env (node.Minus w) (e ∷ []) = refl
forms_with_node sorts env (node.Minus w) (e ∷ (f ∷ es)) = refl
forms_with_node sorts env (node.Times w) [] = refl
forms_with_node sorts env (node.Times w) (e ∷ []) = refl
forms_with_node sorts env (node.Times w) (e ∷ (f ∷ es)) = refl
forms_with_node sorts env (node.Converted signed from to) [] = refl
forms_with_node sorts env (node.Converted signed from to) (e ∷ es) = refl
forms_with_node sorts env (node.Applied f result n) es =
    ap₂ (λ args rest. argument result (form_of_cell result (applied f result args)) rest)
    (first_forms sorts env n es) (other_forms sorts env n es)

pub fits_with_node : (sorts : List Sort) (env : List FlowFormTree) (n : ExprNode) (es : List ExprTree) → all_fit sorts env (with_node n es) ≡ (all_fit sorts env es && node_fits n (forms_of sorts env es))
fits_with_node sorts env (node.Number w n) es = and_true (all_fit sorts env es)
fits_with_node sorts env (node.Variable k) es = and_true (all_fit sorts env es)
fits_with_node sorts env (node.Plus w) [] = moved true true (node_fits (node.Plus w) no_arguments) true
fits_with_node sorts env (node.Plus w) (e ∷ []) =
    moved (expr_fits sorts env e) true (node_fits (node.Plus w) (forms_of sorts env (e ∷ []))) true
fits_with_node sorts env (node.Plus w) (e ∷ (f ∷ es)) =
    moved (expr_fits sorts env e) (expr_fits sorts env f) (node_fits (node.Plus w) (forms_of sorts env (e ∷ (f ∷ es)))) (all_fit sorts env es)
fits_with_node sorts env (node.Minus w) [] = moved true true (node_fits (node.Minus w) no_arguments) true
fits_with_node sorts env (node.Minus w) (e ∷ []) =
    moved (expr_fits sorts env e) true (node_fits (node.Minus w) (forms_of sorts env (e ∷ []))) true
fits_with_node sorts env (node.Minus w) (e ∷ (f ∷ es)) =
    moved (expr_fits sorts env e) (expr_fits sorts env f) (node_fits (node.Minus w) (forms_of sorts env (e ∷ (f ∷ es)))) (all_fit sorts env es)
fits_with_node sorts env (node.Times w) [] = moved true true (node_fits (node.Times w) no_arguments) true
fits_with_node sorts env (node.Times w) (e ∷ []) =
    moved (expr_fits sorts env e) true (node_fits (node.Times w) (forms_of sorts env (e ∷ []))) true
fits_with_node sorts env (node.Times w) (e ∷ (f ∷ es)) =
    moved (expr_fits sorts env e) (expr_fits sorts env f) (node_fits (node.Times w) (forms_of sorts env (e ∷ (f ∷ es)))) (all_fit sorts env es)
fits_with_node sorts env (node.Converted signed from to) [] =
    swapped true (node_fits (node.Converted signed from to) no_arguments) true
fits_with_node sorts env (node.Converted signed from to) (e ∷ es) =
    swapped (expr_fits sorts env e) (node_fits (node.Converted signed from to) (forms_of sorts env (e ∷ es))) (all_fit sorts env es)
fits_with_node sorts env (node.Applied f result n) es =
    swapped (expr_fits sorts env (arguments_of n es)) (is_small (form_of_cell result (applied f result (form_of sorts env (arguments_of n es))))) (all_fit sorts env (drop n es))
    ∙ ap₂ (λ b args. b && is_small (form_of_cell result (applied f result args))) (parts_fit sorts env n es) (first_forms sorts env n es)

-- a node over a stack that fits
pub fits_after : (sorts : List Sort) (env : List FlowFormTree) (n : ExprNode) (es : List ExprTree) (st : FlowFormTree) (b : Bool) → st ≡ forms_of sorts env es → all_fit sorts env es ≡ true → node_fits n st ≡ b → all_fit sorts env (with_node n es) ≡ b
fits_after sorts env n es st b made fits own =
    fits_with_node sorts env n es ∙ ap (λ a. a && node_fits n (forms_of sorts env es)) fits ∙ ap (node_fits n) (sym made) ∙ own

-- the first expression

pub top_sort_is : (sorts : List Sort) (env : List FlowFormTree) (es : List ExprTree) → top_sort (forms_of sorts env es) ≡ sort_of sorts (first_expr es)
top_sort_is sorts env [] = refl
top_sort_is sorts env (e ∷ es) = refl

pub top_form_is : (sorts : List Sort) (env : List FlowFormTree) (es : List ExprTree) → top_form (forms_of sorts env es) ≡ form_of sorts env (first_expr es)
top_form_is sorts env [] = refl
top_form_is sorts env (e ∷ es) = refl

-- variables

pub form_there : (fs : List FlowForm) (k : ℕ) (f : FlowForm) → slice_get fs k ≡ Some f → or_zero (slice_get (map form_tree fs) k) ≡ form_tree f
form_there fs k f e = ap or_zero (slice_get-map form_tree fs k ∙ ap (option_map form_tree) e)

pub no_form_there : (fs : List FlowForm) (k : ℕ) → slice_get fs k ≡ None → or_zero (slice_get (map form_tree fs) k) ≡ constant 0
no_form_there fs k e = ap or_zero (slice_get-map form_tree fs k ∙ ap (option_map form_tree) e)

pub no_second : (b : Bool) → (b && false) ≡ false
no_second true = refl
no_second false = refl

-- two parts that do not fit, beside the whole
pub first_two : (a b c : Bool) → (a && b) ≡ false → (a && (b && c)) ≡ false
first_two true true c h = absurd cc
first_two true false c h = refl
first_two false b c h = refl
