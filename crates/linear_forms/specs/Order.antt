-- The order of monomials and of forms.
use Rattle.std.proofs.Common.{Ordering, Less, Greater, nat_cmp}
use Rattle.std.specs.Ordering.{ordering_then}
use Rattle.linear_forms.specs.Forms.{FormTree, constant, var_term, product_term, MonoTree, var, product}

-- forms are ordered as lists of terms, monomial before coefficient, a proper prefix being less; then by constant
abbrev pub form_cmp : FormTree → FormTree → Ordering
form_cmp (constant c) (constant d) = nat_cmp c d
form_cmp (constant c) (var_term k u q) = Less
form_cmp (constant c) (product_term f g u q) = Less
form_cmp (var_term j t r) (constant d) = Greater
form_cmp (var_term j t r) (var_term k u q) = ordering_then (nat_cmp j k) (ordering_then (nat_cmp t u) (form_cmp r q))
form_cmp (var_term j t r) (product_term f g u q) = Less
form_cmp (product_term d e t r) (constant c) = Greater
form_cmp (product_term d e t r) (var_term k u q) = Greater
form_cmp (product_term d e t r) (product_term f g u q) =
    ordering_then (ordering_then (form_cmp d f) (form_cmp e g)) (ordering_then (nat_cmp t u) (form_cmp r q))

-- variables come before products and are ordered by number; products are ordered by their first form, then by their
-- second
abbrev pub mono_cmp : MonoTree → MonoTree → Ordering
mono_cmp (var j) (var k) = nat_cmp j k
mono_cmp (var j) (product f g) = Less
mono_cmp (product d e) (var k) = Greater
mono_cmp (product d e) (product f g) = ordering_then (form_cmp d f) (form_cmp e g)
