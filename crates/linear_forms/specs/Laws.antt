-- The laws of forms. Each is the contract of a function of the crate that does nothing.
use Rattle.std.specs.Prelude.{◌≡◌, ◌≢◌, false, map, ◌↔◌, ◌+◌, ◌-◌, ◌*◌, ◌%◌, ◌<◌, ℕ}
use Rattle.std.proofs.Common.{Equal, Greater, nat_cmp}
use Rattle.std.specs.Cmp.{IsTotalOrder}
use Rattle.std.specs.Cmp.Lexicographic.{slice_cmp}
use Rattle.kat_model.specs.Expressions.{ExprTree}
use Rattle.kat_model.specs.declared.expression.Rel.{Rel}
use Rattle.kat_model.specs.Stores.{Store}
use Rattle.linear_forms.specs.Forms.{FormTree, constant, MonoTree, constant_of}
use Rattle.linear_forms.specs.Order.{form_cmp, mono_cmp}
use Rattle.linear_forms.specs.Arithmetic.{form_sum, multiple, negative, form_difference, form_product}
use Rattle.linear_forms.specs.NormalForms.{IsForm}
use Rattle.linear_forms.specs.Values.{form_value}
use Rattle.linear_forms.specs.Coefficients.{coefficient}
use Rattle.linear_forms.specs.Comparisons.{coefficients, negative_number, canonical, IsAtomic, IsSettled, IsSettledCond, atomic_has_var, comparison_form, substituted}
use Rattle.linear_forms.specs.declared.comparison.Atomic.{Atomic}
use Rattle.linear_forms.specs.declared.comparison.CondForm.TheVariants.{Pos}

-- in each store, the value of an operation on forms is the operation on their values
pub record KeepsValues (m : ℕ) (s : Store) : Type 0 where
  pub below : (f : FormTree) → form_value m s f < m
  pub of_sum : (f g : FormTree) → form_value m s (form_sum m f g) ≡ (form_value m s f + form_value m s g) % m
  pub of_difference : (f g : FormTree) → form_value m s (form_difference m f g) ≡ (form_value m s f + (m - form_value m s g)) % m
  pub of_multiple : (a : ℕ) (f : FormTree) → form_value m s (multiple m a f) ≡ (a * form_value m s f) % m
  pub of_product : (f g : FormTree) → form_value m s (form_product m f g) ≡ (form_value m s f * form_value m s g) % m
  pub equal : (f g : FormTree) → (form_value m s (form_difference m f g) ≡ 0) ↔ (form_value m s f ≡ form_value m s g)
  pub apart : (f g : FormTree) (c : ℕ) → form_difference m f g ≡ constant c → form_value m s f ≡ (form_value m s g + c) % m
  pub zero : (f : FormTree) → (form_value m s (canonical m f) ≡ 0) ↔ (form_value m s f ≡ 0)

-- monomials and forms are totally ordered, and only equal ones compare as equal
pub record AreOrdered : Type 0 where
  pub monos : IsTotalOrder mono_cmp
  pub forms : IsTotalOrder form_cmp
  pub same_mono : (p q : MonoTree) → (mono_cmp p q ≡ Equal) ↔ (p ≡ q)
  pub same_form : (f g : FormTree) → (form_cmp f g ≡ Equal) ↔ (f ≡ g)

-- sums and multiples of forms are computed by coefficients, and the coefficients and the constant determine a form
pub record GoByCoefficients (m : ℕ) : Type 0 where
  pub of_sum : (f g : FormTree) → IsForm m f → IsForm m g → (p : MonoTree) → coefficient p (form_sum m f g) ≡ (coefficient p f + coefficient p g) % m
  pub of_multiple : (a : ℕ) (f : FormTree) → IsForm m f → (p : MonoTree) → coefficient p (multiple m a f) ≡ (a * coefficient p f) % m
  pub constant_of_sum : (f g : FormTree) → constant_of (form_sum m f g) ≡ (constant_of f + constant_of g) % m
  pub constant_of_multiple : (a : ℕ) (f : FormTree) → constant_of (multiple m a f) ≡ (a * constant_of f) % m
  pub one : (f g : FormTree) → IsForm m f → IsForm m g → ((p : MonoTree) → coefficient p f ≡ coefficient p g) → constant_of f ≡ constant_of g → f ≡ g

-- the negative of a form has the negatives of its coefficients; both have the same canonical form, which has the lesser
-- list
pub record HasOneSign (m : ℕ) (f : FormTree) : Type 0 where
  pub of_negative : coefficients (negative m f) ≡ map (negative_number m) (coefficients f)
  pub twice : negative m (negative m f) ≡ f
  pub both : canonical m (negative m f) ≡ canonical m f
  pub lesser : slice_cmp nat_cmp (coefficients (canonical m f)) (coefficients (negative m (canonical m f))) ≢ Greater

-- the normal forms of comparisons are their own normal forms, and a comparison without the variable is unchanged by
-- substitution
pub record StaySettled (m : ℕ) : Type 0 where
  pub of_comparison : (rel : Rel) (e f : ExprTree) → IsSettledCond m (comparison_form m rel e f)
  pub of_substitution : (j : ℕ) (by : FormTree) (a : Atomic) → IsForm m by → IsSettledCond m (substituted m j by a)
  pub untouched : (j : ℕ) (by : FormTree) (a : Atomic) → IsAtomic m a → IsSettled m a → atomic_has_var j a ≡ false → substituted m j by a ≡ Pos a
