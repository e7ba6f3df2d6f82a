-- The coefficients of a form, by their monomials.
use Rattle.std.specs.Prelude.{ℕ, if◌then◌else◌}
use Rattle.std.specs.Ordering.{is_eq}
use Rattle.linear_forms.specs.Forms.{FormTree, constant, var_term, product_term, MonoTree, var, product}
use Rattle.linear_forms.specs.Order.{mono_cmp}

-- the coefficient of a monomial in a form, or 0 if the form does not have the monomial
abbrev pub coefficient : MonoTree → FormTree → ℕ
coefficient p (constant c) = 0
coefficient p (var_term k t rest) = if is_eq (mono_cmp p (var k)) then t else coefficient p rest
coefficient p (product_term f g t rest) = if is_eq (mono_cmp p (product f g)) then t else coefficient p rest
