-- The value of a form in a store.
use Rattle.std.specs.Prelude.{◌≡◌, ℕ, ◌+◌, ◌*◌, ◌%◌, slice_index_or}
use Rattle.kat_model.specs.Expressions.{ExprTree}
use Rattle.kat_model.specs.Stores.{modulus, Store, IsStore, value}
use Rattle.kat_model.specs.declared.expression.Width.{Width}
use Rattle.linear_forms.specs.Forms.{FormTree, constant, var_term, product_term, MonoTree, var, product}

-- the value of a form as a polynomial over the natural numbers; an undefined variable is 0
abbrev pub polynomial : Store → FormTree → ℕ
polynomial s (constant c) = c
polynomial s (var_term k t rest) = t * slice_index_or s k 0 + polynomial s rest
polynomial s (product_term f g t rest) = t * (polynomial s f * polynomial s g) + polynomial s rest

-- the value of a form modulo m
abbrev pub form_value : ℕ → Store → FormTree → ℕ
form_value m s f = polynomial s f % m

-- the form has the value of the expression in every store of the width
abbrev pub HasValueOf : Width → ExprTree → FormTree → Type 0
HasValueOf w e f = (s : Store) → IsStore w s → form_value (modulus w) s f ≡ value w s e

-- the value of a monomial as a polynomial over the natural numbers
abbrev pub mono_polynomial : Store → MonoTree → ℕ
mono_polynomial s (var k) = slice_index_or s k 0
mono_polynomial s (product f g) = polynomial s f * polynomial s g
