-- Arithmetic on forms modulo m.
use Rattle.std.specs.Prelude.{ℕ, ◌+◌, ◌-◌, ◌*◌, ◌%◌, nat_eq, if◌then◌else◌, List, [], ◌∷◌}
use Rattle.std.proofs.Common.{Ordering, Less, Equal, Greater}
use Rattle.kat_model.specs.Expressions.{ExprTree, number, variable, plus, minus, times}
use Rattle.linear_forms.specs.Forms.{FormTree, constant, product_term, MonoTree, TermTree, form_of, terms_of, constant_of, form_of_var}
use Rattle.linear_forms.specs.Order.{form_cmp, mono_cmp}

-- the first, second or third value, selected by an ordering
abbrev pub by_order : {X : Type 0} → Ordering → X → X → X → X
by_order Less x y z = x
by_order Equal x y z = y
by_order Greater x y z = z

-- a monomial with its coefficient before a list of terms, or only the list if the coefficient is 0
abbrev pub put_nonzero : MonoTree → ℕ → List TermTree → List TermTree
put_nonzero p t xs = if nat_eq t 0 then xs else (p, t) ∷ xs

-- the terms x and xs merged with a list of terms; `merge_rest` merges xs with a list
abbrev pub merge_onto : ℕ → TermTree → List TermTree → (List TermTree → List TermTree) → List TermTree → List TermTree
merge_onto m x xs merge_rest [] = x ∷ xs
merge_onto m x xs merge_rest (y ∷ ys) =
    by_order (mono_cmp x.0 y.0)
    (x ∷ merge_rest (y ∷ ys))
    (put_nonzero x.0 ((x.1 + y.1) % m) (merge_rest ys))
    (y ∷ merge_onto m x xs merge_rest ys)

-- two ascending lists of terms as one, with the coefficients of common monomials added
abbrev pub merge : ℕ → List TermTree → List TermTree → List TermTree
merge m [] ys = ys
merge m (x ∷ xs) ys = merge_onto m x xs (merge m xs) ys

-- a list of terms, each multiplied by a number
abbrev pub scale : ℕ → ℕ → List TermTree → List TermTree
scale m a [] = []
scale m a (x ∷ xs) = put_nonzero x.0 ((a * x.1) % m) (scale m a xs)

-- the sum of two forms: term by term, without the coefficients that become 0
abbrev pub form_sum : ℕ → FormTree → FormTree → FormTree
form_sum m f g = form_of (merge m (terms_of f) (terms_of g)) ((constant_of f + constant_of g) % m)

-- a form multiplied by a number
abbrev pub multiple : ℕ → ℕ → FormTree → FormTree
multiple m a f = form_of (scale m a (terms_of f)) ((a * constant_of f) % m)

-- -f: m - 1 times f
abbrev pub negative : ℕ → FormTree → FormTree
negative m f = multiple m (m - 1) f

abbrev pub form_difference : ℕ → FormTree → FormTree → FormTree
form_difference m f g = form_sum m f (negative m g)

-- the form that is one product of two forms, the lesser first
abbrev pub ordered_product : FormTree → FormTree → FormTree
ordered_product f g =
    by_order (form_cmp f g) (product_term f g 1 (constant 0)) (product_term f g 1 (constant 0)) (product_term g f 1 (constant 0))

-- the product of two forms: a multiple if one of them is constant, and otherwise one opaque product
abbrev pub form_product : ℕ → FormTree → FormTree → FormTree
form_product m (constant c) g = multiple m c g
form_product m f (constant d) = multiple m d f
form_product m f g = ordered_product f g

-- the normal form of an expression
abbrev pub normal_form : ℕ → ExprTree → FormTree
normal_form m (number n) = constant (n % m)
normal_form m (variable k) = form_of_var k
normal_form m (plus e f) = form_sum m (normal_form m e) (normal_form m f)
normal_form m (minus e f) = form_difference m (normal_form m e) (normal_form m f)
normal_form m (times e f) = form_product m (normal_form m e) (normal_form m f)
