-- A number that decreases from a form to the forms in its products, so that recursion over forms terminates.
use Rattle.std.specs.Prelude.{ℕ, ◌+◌}
use Rattle.linear_forms.specs.Forms.{FormTree, constant, var_term, product_term, MonoTree, var, product}

abbrev pub form_rank : FormTree → ℕ
form_rank (constant c) = 1
form_rank (var_term k t rest) = form_rank rest + 1
form_rank (product_term f g t rest) = form_rank rest + (form_rank f + form_rank g + 3)

abbrev pub mono_rank : MonoTree → ℕ
mono_rank (var k) = 0
mono_rank (product f g) = form_rank f + form_rank g + 2
