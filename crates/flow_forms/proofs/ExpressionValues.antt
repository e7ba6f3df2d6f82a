-- The form of an expression has the value of the expression in the state whose variables have the values of their forms.
use Rattle.std.proofs.Common.{◌≡◌, ℕ, ◌+◌, ◌-◌, ◌*◌, ◌%◌, Bool, true, false, List, ◌∷◌, refl, sym, ◌∙◌, ap}
use mathlib.Core.Path.{ap₂}
use Rattle.std.proofs.Math.Nat.{mod-mod}
use Rattle.kat_model.specs.Stores.{modulus}
use Rattle.kat_model.specs.declared.expression.Width.{Width}
use Rattle.flow_model.specs.declared.sort.Sort.{Sort}
use Rattle.flow_model.specs.declared.sort.Sort.TheVariants.{Number, Opaque}
use Rattle.flow_model.specs.Sorts.{State, value_in}
use Rattle.flow_model.specs.Interpretations.{Interpretation, conversion, values, value}
use Rattle.flow_model.specs.Expressions.{ExprTree}
use Rattle.flow_model.specs.Expressions as expr
use Rattle.flow_forms.specs.Forms.{FlowFormTree, applied}
use Rattle.flow_forms.specs.Values.{form_values, polynomial, form_value}
use Rattle.flow_forms.specs.Expressions.{sort_of, IsSorted, form_of_cell, form_of, HasForms}
use Rattle.flow_forms.proofs.Polynomials.{polynomial-cell_form, value-form_sum, value-form_difference, value-form_product}
use Rattle.flow_forms.proofs.ConvertedValues.{value-form_conversion}
use Rattle.flow_forms.proofs.EquationValues.{positive}

-- what holds of an expression, or of arguments
abbrev Kept : Interpretation → State → List Sort → List FlowFormTree → State → Bool → ExprTree → Type 0
Kept I s sorts env t false e = value I t e ≡ form_value I s (sort_of sorts e) (form_of sorts env e)
Kept I s sorts env t true e = values I t e ≡ form_values I s (form_of sorts env e)

-- the value of an operand at its width
at_width : (I : Interpretation) (s : State) (sorts : List Sort) (env : List FlowFormTree) (t : State) (w : Width) (e : ExprTree) → Kept I s sorts env t false e → sort_of sorts e ≡ Number w → value I t e ≡ polynomial I s (form_of sorts env e) % modulus w
at_width I s sorts env t w e k q = k ∙ ap (λ sort. form_value I s sort (form_of sorts env e)) q

pub value-form_of_cell : (I : Interpretation) (s : State) (sort : Sort) (c : FlowFormTree) → form_value I s sort (form_of_cell sort c) ≡ value_in sort (polynomial I s c)
value-form_of_cell I s (Number w) c = ap (λ n. n % modulus w) (polynomial-cell_form I s c)
value-form_of_cell I s (Opaque k) c = refl

pub value_twice : (sort : Sort) (n : ℕ) → value_in sort (value_in sort n) ≡ value_in sort n
value_twice (Number w) n = mod-mod n (modulus w)
value_twice (Opaque k) n = refl

pub kept : (I : Interpretation) (s : State) (sorts : List Sort) (env : List FlowFormTree) (t : State) → HasForms I s sorts env t → (mode : Bool) (e : ExprTree) → IsSorted sorts mode e → Kept I s sorts env t mode e
kept I s sorts env t h false (expr.number w n) o = sym (mod-mod n (modulus w))
kept I s sorts env t h false (expr.variable k) o = h k
kept I s sorts env t h false (expr.plus w e f) (a, b, p, q) =
    ap₂ (λ x y. (x + y) % modulus w)
    (at_width I s sorts env t w e (kept I s sorts env t h false e a) p)
    (at_width I s sorts env t w f (kept I s sorts env t h false f b) q)
    ∙ sym (value-form_sum I s (modulus w) (form_of sorts env e) (form_of sorts env f))
kept I s sorts env t h false (expr.minus w e f) (a, b, p, q) =
    ap₂ (λ x y. (x + (modulus w - y)) % modulus w)
    (at_width I s sorts env t w e (kept I s sorts env t h false e a) p)
    (at_width I s sorts env t w f (kept I s sorts env t h false f b) q)
    ∙ sym (value-form_difference I s (modulus w) (form_of sorts env e) (form_of sorts env f) (positive w))
kept I s sorts env t h false (expr.times w e f) (a, b, p, q) =
    ap₂ (λ x y. (x * y) % modulus w)
    (at_width I s sorts env t w e (kept I s sorts env t h false e a) p)
    (at_width I s sorts env t w f (kept I s sorts env t h false f b) q)
    ∙ sym (value-form_product I s (modulus w) (form_of sorts env e) (form_of sorts env f))
kept I s sorts env t h false (expr.converted signed from to e) (a, p) =
    ap (λ x. conversion signed from to x) (at_width I s sorts env t from e (kept I s sorts env t h false e a) p)
    ∙ sym (value-form_conversion I s signed from to (form_of sorts env e))
kept I s sorts env t h false (expr.applied f result arguments) o =
    ap (λ ns. value_in result (I f ns)) (kept I s sorts env t h true arguments o)
    ∙ sym (value-form_of_cell I s result (applied f result (form_of sorts env arguments))
    ∙ value_twice result (I f (form_values I s (form_of sorts env arguments))))
kept I s sorts env t h false expr.no_arguments o = absurd o
kept I s sorts env t h false (expr.argument e rest) o = absurd o
kept I s sorts env t h true expr.no_arguments o = refl
kept I s sorts env t h true (expr.argument e rest) (a, b) =
    ap₂ (λ n ns. n ∷ ns) (kept I s sorts env t h false e a) (kept I s sorts env t h true rest b)
kept I s sorts env t h true _ o = absurd o
