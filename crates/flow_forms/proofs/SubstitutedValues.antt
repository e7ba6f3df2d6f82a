-- Forms with forms in place of variables have the values of the former in the state of the latter.
use Rattle.std.proofs.Common.{◌≡◌, ℕ, ◌+◌, ◌*◌, ◌%◌, Bool, true, false, List, [], ◌∷◌, slice_get, nat_eq, nat_lt, if◌then◌else◌, refl, sym, ◌∙◌, ap, subst}
use mathlib.Core.Path.{ap₂}
use Rattle.std.proofs.Math.Nat.{mod-mod}
use Rattle.kat_model.specs.Stores.{modulus}
use Rattle.linear_forms.proofs.Modulo.{Cong, cong_add, cong_mul}
use Rattle.flow_model.specs.declared.sort.Sort.{Sort}
use Rattle.flow_model.specs.declared.sort.Sort.TheVariants.{Number, Opaque}
use Rattle.flow_model.specs.Sorts.{State, value_in}
use Rattle.flow_model.specs.Interpretations.{Interpretation, conversion, first}
use Rattle.flow_forms.specs.Forms.{FlowFormTree, constant, term, one, factor, variable, applied, converted, no_arguments, argument}
use Rattle.flow_forms.specs.Values.{form_values, polynomial, form_value}
use Rattle.flow_forms.specs.Arithmetic.{multiple}
use Rattle.flow_forms.specs.Conversions.{is_same_width, form_conversion}
use Rattle.flow_forms.specs.Comparisons.{FlowComparisonTree, zero_form, less_form, same_form, comparison_holds, literal_holds}
use Rattle.flow_forms.specs.Expressions.{or_number, or_zero, form_of_cell, HasForms}
use Rattle.flow_forms.specs.declared.substitution.Place.{Place}
use Rattle.flow_forms.specs.declared.substitution.Place.TheVariants as place
use Rattle.flow_forms.specs.Substitution.{place_of, cell_in, sum_in, one_in, product_in, substituted, comparison_after}
use Rattle.flow_forms.proofs.Polynomials.{polynomial-form_sum, polynomial-multiple, polynomial-form_product}
use Rattle.flow_forms.proofs.ConvertedValues.{same_bits, value-form_conversion}
use Rattle.flow_forms.proofs.ComparisonValues.{holds-zero_literal, holds-less_literal, holds-same_literal}
use Rattle.flow_forms.proofs.ExpressionValues.{value-form_of_cell, value_twice}

-- the form `g` in the state `s` has in its place the value of `f` in the state `t`
abbrev Same : Interpretation → State → State → Place → FlowFormTree → FlowFormTree → Type 0
Same I s t (place.InNumber w) g f = Cong (modulus w) (polynomial I s g) (polynomial I t f)
Same I s t place.AsValue g f = polynomial I s g ≡ polynomial I t f
Same I s t place.AsArgument g f = form_values I s g ≡ form_values I t f

same_values : (I : Interpretation) (s t : State) (spot : Place) (g f : FlowFormTree) → form_values I s g ≡ form_values I t f → Same I s t spot g f
same_values I s t (place.InNumber w) g f e = ap (λ ns. first ns % modulus w) e
same_values I s t place.AsValue g f e = ap first e
same_values I s t place.AsArgument g f e = e

-- a cell whose value the form has
cell_same : (I : Interpretation) (s t : State) (spot : Place) (sort : Sort) (g f : FlowFormTree) → form_values I t f ≡ form_value I s sort g ∷ [] → Same I s t spot (cell_in spot sort g) f
cell_same I s t (place.InNumber w) (Number v) g f q = by_test (is_same_width v w) (same_bits v w)
  where
    value : polynomial I t f ≡ polynomial I s g % modulus v
    value = ap first q

    by_test : (b : Bool) → (b ≡ true → v ≡ w) → Cong (modulus w) (polynomial I s (if b then g else form_conversion false v w g)) (polynomial I t f)
    by_test true e =
        subst (λ u. Cong (modulus u) (polynomial I s g) (polynomial I t f)) (e refl)
        (sym (ap (λ n. n % modulus v) value ∙ mod-mod (polynomial I s g) (modulus v)))
    by_test false e = value-form_conversion I s false v w g ∙ sym (ap (λ n. n % modulus w) value)
cell_same I s t (place.InNumber w) (Opaque k) g f q = sym (ap (λ ns. first ns % modulus w) q)
cell_same I s t place.AsValue (Number v) g f q = sym (ap first q)
cell_same I s t place.AsValue (Opaque k) g f q = sym (ap first q)
cell_same I s t place.AsArgument sort g f q = sym q

sum_same : (I : Interpretation) (s t : State) (spot : Place) (a : ℕ) (p q rest other : FlowFormTree) → Same I s t spot p q → Same I s t spot rest other → Same I s t spot (sum_in spot a p rest) (term a q other)
sum_same I s t (place.InNumber w) a p q rest other h k =
    polynomial-form_sum I s (modulus w) (multiple (modulus w) a p) rest
    ∙ cong_add (modulus w) (polynomial I s (multiple (modulus w) a p)) (a * polynomial I t q) (polynomial I s rest) (polynomial I t other)
    (polynomial-multiple I s (modulus w) a p ∙ cong_mul (modulus w) a a (polynomial I s p) (polynomial I t q) refl h)
    k
sum_same I s t place.AsValue a p q rest other h k = ap₂ (λ x y. a * x + y) h k
sum_same I s t place.AsArgument a p q rest other h k = ap₂ (λ x y. (a * first x + first y) ∷ []) h k

one_same : (I : Interpretation) (s t : State) (spot : Place) → Same I s t spot (one_in spot) one
one_same I s t (place.InNumber w) = refl
one_same I s t place.AsValue = refl
one_same I s t place.AsArgument = refl

product_same : (I : Interpretation) (s t : State) (spot : Place) (c d rest other : FlowFormTree) → Same I s t spot c d → Same I s t spot rest other → Same I s t spot (product_in spot c rest) (factor d other)
product_same I s t (place.InNumber w) c d rest other h k =
    polynomial-form_product I s (modulus w) c rest
    ∙ cong_mul (modulus w) (polynomial I s c) (polynomial I t d) (polynomial I s rest) (polynomial I t other) h k
product_same I s t place.AsValue c d rest other h k = ap₂ (λ x y. x * y) h k
product_same I s t place.AsArgument c d rest other h k = ap₂ (λ x y. (first x * first y) ∷ []) h k

at_sort : (I : Interpretation) (s t : State) (sort : Sort) (g f : FlowFormTree) → Same I s t (place_of sort) g f → form_value I s sort g ≡ form_value I t sort f
at_sort I s t (Number w) g f h = h
at_sort I s t (Opaque k) g f h = h

substituted_same : (I : Interpretation) (s : State) (sorts : List Sort) (env : List FlowFormTree) (t : State) → HasForms I s sorts env t → (spot : Place) (f : FlowFormTree) → Same I s t spot (substituted sorts env spot f) f
substituted_same I s sorts env t h spot (constant c) = same_values I s t spot (constant c) (constant c) refl
substituted_same I s sorts env t h spot (term a p rest) =
    sum_same I s t spot a (substituted sorts env spot p) p (substituted sorts env spot rest) rest
    (substituted_same I s sorts env t h spot p) (substituted_same I s sorts env t h spot rest)
substituted_same I s sorts env t h spot one = one_same I s t spot
substituted_same I s sorts env t h spot (factor c rest) =
    product_same I s t spot (substituted sorts env spot c) c (substituted sorts env spot rest) rest
    (substituted_same I s sorts env t h spot c) (substituted_same I s sorts env t h spot rest)
substituted_same I s sorts env t h spot (variable k) =
    cell_same I s t spot (or_number (slice_get sorts k)) (or_zero (slice_get env k)) (variable k) (ap (λ n. n ∷ []) (h k))
substituted_same I s sorts env t h spot (applied f result args) =
    cell_same I s t spot result (form_of_cell result (applied f result (substituted sorts env place.AsArgument args))) (applied f result args)
    (ap (λ n. n ∷ []) (sym (
    value-form_of_cell I s result (applied f result (substituted sorts env place.AsArgument args))
    ∙ value_twice result (I f (form_values I s (substituted sorts env place.AsArgument args)))
    ∙ ap (λ ns. value_in result (I f ns)) (substituted_same I s sorts env t h place.AsArgument args))))
substituted_same I s sorts env t h spot (converted signed from to f) =
    cell_same I s t spot (Number to) (form_conversion signed from to (substituted sorts env (place.InNumber from) f)) (converted signed from to f)
    (ap (λ n. n ∷ []) (sym (
    value-form_conversion I s signed from to (substituted sorts env (place.InNumber from) f)
    ∙ ap (λ n. conversion signed from to n) (substituted_same I s sorts env t h (place.InNumber from) f))))
substituted_same I s sorts env t h spot no_arguments = same_values I s t spot no_arguments no_arguments refl
substituted_same I s sorts env t h spot (argument sort f rest) =
    same_values I s t spot (argument sort (substituted sorts env (place_of sort) f) (substituted sorts env place.AsArgument rest)) (argument sort f rest)
    (ap₂ (λ n ns. n ∷ ns)
    (at_sort I s t sort (substituted sorts env (place_of sort) f) f (substituted_same I s sorts env t h (place_of sort) f))
    (substituted_same I s sorts env t h place.AsArgument rest))

pub value-substituted : (I : Interpretation) (s : State) (sorts : List Sort) (env : List FlowFormTree) (t : State) → HasForms I s sorts env t → (sort : Sort) (f : FlowFormTree) → form_value I s sort (substituted sorts env (place_of sort) f) ≡ form_value I t sort f
value-substituted I s sorts env t h sort f =
    at_sort I s t sort (substituted sorts env (place_of sort) f) f (substituted_same I s sorts env t h (place_of sort) f)

pub holds-comparison_after : (I : Interpretation) (s : State) (sorts : List Sort) (env : List FlowFormTree) (t : State) → HasForms I s sorts env t → (c : FlowComparisonTree) → literal_holds I s (comparison_after sorts env c) ≡ comparison_holds I t c
holds-comparison_after I s sorts env t h (zero_form w f) =
    holds-zero_literal I s w (substituted sorts env (place.InNumber w) f)
    ∙ ap (λ n. nat_eq n 0) (substituted_same I s sorts env t h (place.InNumber w) f)
holds-comparison_after I s sorts env t h (less_form w f g) =
    holds-less_literal I s w (substituted sorts env (place.InNumber w) f) (substituted sorts env (place.InNumber w) g)
    ∙ ap₂ (λ x y. nat_lt x y) (substituted_same I s sorts env t h (place.InNumber w) f) (substituted_same I s sorts env t h (place.InNumber w) g)
holds-comparison_after I s sorts env t h (same_form f g) =
    holds-same_literal I s (substituted sorts env place.AsValue f) (substituted sorts env place.AsValue g)
    ∙ ap₂ (λ x y. nat_eq x y) (substituted_same I s sorts env t h place.AsValue f) (substituted_same I s sorts env t h place.AsValue g)
