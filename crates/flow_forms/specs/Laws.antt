-- The laws of forms.
use Rattle.std.specs.Prelude.{◌≡◌, ◌↔◌, ℕ, ◌+◌, ◌-◌, ◌*◌, ◌%◌, nat_eq, Bool, false, List}
use Rattle.std.proofs.Common.{Equal}
use Rattle.kat_model.specs.Stores.{modulus, compares}
use Rattle.kat_model.specs.declared.expression.Rel.{Rel}
use Rattle.kat_model.specs.declared.expression.Width.{Width}
use Rattle.flow_model.specs.declared.sort.Sort.TheVariants.{Number}
use Rattle.flow_model.specs.Sorts.{State}
use Rattle.flow_model.specs.Interpretations.{Interpretation, conversion, biased, value}
use Rattle.flow_forms.specs.Forms.{FlowFormTree, cell_form}
use Rattle.flow_forms.specs.Values.{form_value, polynomial}
use Rattle.flow_forms.specs.Order.{form_cmp}
use Rattle.flow_forms.specs.Arithmetic.{form_sum, form_difference, multiple, form_product}
use Rattle.flow_forms.specs.Conversions.{form_conversion}
use Rattle.flow_forms.specs.Comparisons.{FlowComparisonTree, comparison_holds, literal_holds, compared_numbers, compared_signed, same_literal}
use Rattle.flow_model.specs.declared.sort.Sort.{Sort}
use Rattle.flow_model.specs.Expressions.{ExprTree}
use Rattle.flow_forms.specs.Expressions.{sort_of, IsSorted, form_of, HasForms}
use Rattle.flow_forms.specs.Substitution.{place_of, substituted, comparison_after}

-- in each state under each interpretation, the value of an operation on forms of a width is the operation on their
-- values
pub record KeepsValues (I : Interpretation) (s : State) (w : Width) : Type 0 where
  pub of_sum : (f g : FlowFormTree) →
      form_value I s (Number w) (form_sum (modulus w) f g) ≡ (form_value I s (Number w) f + form_value I s (Number w) g) % modulus w
  pub of_difference : (f g : FlowFormTree) →
      form_value I s (Number w) (form_difference (modulus w) f g) ≡ (form_value I s (Number w) f + (modulus w - form_value I s (Number w) g)) % modulus w
  pub of_multiple : (a : ℕ) (f : FlowFormTree) →
      form_value I s (Number w) (multiple (modulus w) a f) ≡ (a * form_value I s (Number w) f) % modulus w
  pub of_product : (f g : FlowFormTree) →
      form_value I s (Number w) (form_product (modulus w) f g) ≡ (form_value I s (Number w) f * form_value I s (Number w) g) % modulus w
  pub of_conversion : (signed : Bool) (from : Width) (f : FlowFormTree) →
      form_value I s (Number w) (form_conversion signed from w f) ≡ conversion signed from w (form_value I s (Number from) f)
  pub of_cell : (c : FlowFormTree) → polynomial I s (cell_form c) ≡ polynomial I s c

-- only equal forms compare as equal
abbrev pub EqualFormsAreOne : Type 0
EqualFormsAreOne = (f g : FlowFormTree) → (form_cmp f g ≡ Equal) ↔ (f ≡ g)

-- in each state under each interpretation, the normal form of a comparison holds exactly when the comparison does
pub record ComparesValues (I : Interpretation) (s : State) : Type 0 where
  pub of_numbers : (w : Width) (rel : Rel) (f g : FlowFormTree) →
      literal_holds I s (compared_numbers w rel f g) ≡ compares rel (form_value I s (Number w) f) (form_value I s (Number w) g)
  pub of_signed : (w : Width) (rel : Rel) (f g : FlowFormTree) →
      literal_holds I s (compared_signed w rel f g) ≡ compares rel (biased w (form_value I s (Number w) f)) (biased w (form_value I s (Number w) g))
  pub of_opaque : (f g : FlowFormTree) → literal_holds I s (same_literal f g) ≡ nat_eq (polynomial I s f) (polynomial I s g)

-- an expression whose operands have their sorts has the value of its form, if the variables have those of theirs
abbrev pub ExpressionsHaveForms : Type 0
ExpressionsHaveForms =
    (I : Interpretation) (s : State) (sorts : List Sort) (env : List FlowFormTree) (t : State) → HasForms I s sorts env t →
    (e : ExprTree) → IsSorted sorts false e → value I t e ≡ form_value I s (sort_of sorts e) (form_of sorts env e)

-- a form with forms in place of its variables has the value that it has in the state whose variables have the values of
-- those forms, and a comparison holds after the substitution exactly when it holds in that state
pub record KeepsSubstituted (I : Interpretation) (s : State) (sorts : List Sort) (env : List FlowFormTree) (t : State) : Type 0 where
  pub of_form : (sort : Sort) (f : FlowFormTree) → form_value I s sort (substituted sorts env (place_of sort) f) ≡ form_value I t sort f
  pub of_comparison : (c : FlowComparisonTree) → literal_holds I s (comparison_after sorts env c) ≡ comparison_holds I t c

abbrev pub SubstitutionKeepsValues : Type 0
SubstitutionKeepsValues =
    (I : Interpretation) (s : State) (sorts : List Sort) (env : List FlowFormTree) (t : State) → HasForms I s sorts env t → KeepsSubstituted I s sorts env t
