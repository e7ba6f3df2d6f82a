-- What operations do with a form that does not begin as they expect: it is taken as one cell.
use Rattle.std.proofs.Common.{◌≡◌, ℕ, ◌%◌, Bool, false, refl, Box, Global}
use Rattle.kat_model.specs.declared.expression.Width.{Width}
use Rattle.flow_forms.specs.declared.form.FlowForm.{FlowForm}
use Rattle.flow_forms.specs.declared.form.FlowForm.TheVariants.{Constant, Term', One, Factor', Converted'}
use Rattle.flow_forms.specs.declared.form.FlowForm.TheViews as views
use Rattle.flow_forms.specs.Forms.{FlowFormTree, constant, term, one, factor, converted, cell_form, form_tree}
use Rattle.flow_forms.specs.Arithmetic.{nonzero_term, form_sum, joined, term_times}
use Rattle.flow_forms.specs.Conversions.{truncated}

abbrev pub IsNoConstant : FlowFormTree → Type 0
IsNoConstant (constant c) = ⊥
IsNoConstant f = Unit {0}

abbrev pub IsNoTerm : FlowFormTree → Type 0
IsNoTerm (term t p rest) = ⊥
IsNoTerm f = Unit {0}

pub no_constant : (f : FlowForm) → ((c : ℕ) → f ≡ Constant c → ⊥) → IsNoConstant (form_tree f)
no_constant (Constant c) h = h c refl
no_constant _ h = tt

boxed : Box (Unit {0}) Global → FlowForm → Box FlowForm Global
boxed x f = record { ptr = x.ptr; alloc = x.alloc; value = f }

pub no_term : (f : FlowForm) → ((t : ℕ) (x y : Box FlowForm Global) → f ≡ views.Term t x y → ⊥) → IsNoTerm (form_tree f)
unfolding boxed
no_term (Term' t x p y rest) h = h t (boxed x p) (boxed y rest) refl
no_term _ h = tt

pub form_sum-other : (m : ℕ) (f g : FlowFormTree) → IsNoConstant f → IsNoTerm f → form_sum m f g ≡ form_sum m (term 1 (factor f one) (constant 0)) g
form_sum-other m (constant d) g h k = absurd h
form_sum-other m (term t p rest) g h k = absurd k
form_sum-other m _ g h k = refl

-- a term before a sum, and one cell
pub form_sum_term-other : (m t : ℕ) (p rest f : FlowFormTree) → IsNoTerm f → form_sum m (term t p rest) f ≡ term t p (form_sum m rest f)
form_sum_term-other m t p rest (term u q other) k = absurd k
form_sum_term-other m t p rest _ k = refl

pub term_times-other : (m t : ℕ) (p f : FlowFormTree) → IsNoConstant f → IsNoTerm f → term_times m t p f ≡ nonzero_term (t % m) (joined p (factor f one)) (constant 0)
term_times-other m t p (constant d) h k = absurd h
term_times-other m t p (term u q rest) h k = absurd k
term_times-other m t p _ h k = refl

abbrev pub IsNoOne : FlowFormTree → Type 0
IsNoOne one = ⊥
IsNoOne f = Unit {0}

abbrev pub IsNoFactor : FlowFormTree → Type 0
IsNoFactor (factor c rest) = ⊥
IsNoFactor f = Unit {0}

pub no_one : (f : FlowForm) → (f ≡ One → ⊥) → IsNoOne (form_tree f)
no_one One h = h refl
no_one _ h = tt

pub no_factor : (f : FlowForm) → ((x y : Box FlowForm Global) → f ≡ views.Factor x y → ⊥) → IsNoFactor (form_tree f)
unfolding boxed
no_factor (Factor' x c y rest) h = h (boxed x c) (boxed y rest) refl
no_factor _ h = tt

pub joined-other : (p q : FlowFormTree) → IsNoOne p → IsNoFactor p → joined p q ≡ joined (factor p one) q
joined-other one q h k = absurd h
joined-other (factor c rest) q h k = absurd k
joined-other _ q h k = refl

-- a product before one cell
pub joined_factor-other : (c cs q : FlowFormTree) → IsNoFactor q → joined (factor c cs) q ≡ factor c (joined cs q)
joined_factor-other c cs (factor d ds) k = absurd k
joined_factor-other c cs _ k = refl

abbrev pub IsNoConversion : FlowFormTree → Type 0
IsNoConversion (converted signed from to f) = ⊥
IsNoConversion f = Unit {0}

pub no_conversion : (f : FlowForm) → ((signed : Bool) (from to : Width) (x : Box FlowForm Global) → f ≡ views.Converted signed from to x → ⊥) → IsNoConversion (form_tree f)
unfolding boxed
no_conversion (Converted' signed from to x f) h = h signed from to (boxed x f) refl
no_conversion _ h = tt

pub truncated-other : (from to : Width) (f : FlowFormTree) → IsNoConstant f → IsNoTerm f → IsNoOne f → IsNoFactor f → IsNoConversion f → truncated from to f ≡ cell_form (converted false from to (cell_form f))
truncated-other from to (constant c) h k l m n = absurd h
truncated-other from to (term t p rest) h k l m n = absurd k
truncated-other from to one h k l m n = absurd l
truncated-other from to (factor c rest) h k l m n = absurd m
truncated-other from to (converted signed v w f) h k l m n = absurd n
truncated-other from to _ h k l m n = refl
