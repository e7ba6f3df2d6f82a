-- A form in place of a variable.
use Rattle.std.specs.Prelude.{Bool, false, ◌||◌, ℕ, ◌%◌, nat_eq, if◌then◌else◌}
use Rattle.linear_forms.specs.Forms.{FormTree, constant, var_term, product_term, MonoTree, var, product, form_of_var}
use Rattle.linear_forms.specs.Arithmetic.{form_sum, multiple, form_product}

-- variable k, with the form `by` in place of variable j
abbrev pub var_replaced : ℕ → FormTree → ℕ → FormTree
var_replaced j by k = if nat_eq k j then by else form_of_var k

-- the normal form of a form with `by` in place of variable j, products included
abbrev pub replaced : ℕ → ℕ → FormTree → FormTree → FormTree
replaced m j by (constant c) = constant (c % m)
replaced m j by (var_term k t rest) = form_sum m (multiple m t (var_replaced j by k)) (replaced m j by rest)
replaced m j by (product_term f g t rest) =
    form_sum m (multiple m t (form_product m (replaced m j by f) (replaced m j by g))) (replaced m j by rest)

-- the normal form of a monomial with `by` in place of variable j
abbrev pub mono_replaced : ℕ → ℕ → FormTree → MonoTree → FormTree
mono_replaced m j by (var k) = var_replaced j by k
mono_replaced m j by (product f g) = form_product m (replaced m j by f) (replaced m j by g)

-- whether variable j occurs in a form
abbrev pub has_var : ℕ → FormTree → Bool
has_var j (constant c) = false
has_var j (var_term k t rest) = nat_eq k j || has_var j rest
has_var j (product_term f g t rest) = has_var j f || has_var j g || has_var j rest
