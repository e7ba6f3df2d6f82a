-- The results of operations on forms are forms.
use Rattle.std.proofs.Common.{ℕ, ◌≡◌, ◌+◌, ◌-◌, ◌*◌, ◌%◌, ◌<◌, nat_eq, Bool, true, false, if◌then◌else◌, refl, sym, ◌∙◌, ap, arith, Ordering, Less, Equal, Greater, nat_cmp, map}
use Rattle.std.specs.Ordering.{ordering_reverse, is_eq}
use Rattle.std.specs.Cmp.Lexicographic.{slice_cmp}
use Rattle.std.proofs.lemmas.Nat.{mod_below}
use Rattle.kat_model.specs.Expressions.{ExprTree, number, variable, plus, minus, times}
use Rattle.kat_model.specs.declared.expression.Rel.{Rel}
use Rattle.kat_model.specs.declared.expression.Rel.TheVariants.{Eq, Ne, Lt, Le, Gt, Ge}
use Rattle.linear_forms.specs.Forms.{FormTree, constant, var_term, product_term, terms_of, constant_of, form_of_var}
use Rattle.linear_forms.specs.Order.{form_cmp}
use Rattle.linear_forms.specs.Arithmetic.{by_order, merge, scale, form_sum, multiple, negative, form_difference, ordered_product, form_product, normal_form}
use Rattle.linear_forms.specs.NormalForms.{IsVarying, IsForm}
use Rattle.linear_forms.specs.Substitution.{var_replaced, replaced}
use Rattle.linear_forms.specs.Comparisons.{IsCondForm, coefficients, negative_number, canonical, constantly, opposite, zero_form, is_constant, varying_less_form, less_form, compared_form, comparison_form, substituted}
use Rattle.linear_forms.specs.declared.comparison.Atomic.{Atomic}
use Rattle.linear_forms.specs.declared.comparison.Atomic.TheVariants.{Zero, Less as Below}
use Rattle.linear_forms.specs.declared.comparison.CondForm.{CondForm}
use Rattle.linear_forms.specs.declared.comparison.CondForm.TheVariants.{True, False, Pos, Neg}
use Rattle.linear_forms.proofs.TotalOrder.{form_turned}
use Rattle.linear_forms.proofs.Ascending.{form_of_terms, terms_of_form, are_terms_merge, are_terms_scale}

pub is_form_sum : (m : ℕ) (f g : FormTree) → 0 < m → IsForm m f → IsForm m g → IsForm m (form_sum m f g)
is_form_sum m f g pos i j =
    form_of_terms m (merge m (terms_of f) (terms_of g)) ((constant_of f + constant_of g) % m) (mod_below (constant_of f + constant_of g) m pos)
    (are_terms_merge m (terms_of f) (terms_of g) pos (terms_of_form m f i) (terms_of_form m g j))

pub is_form_multiple : (m a : ℕ) (f : FormTree) → 0 < m → IsForm m f → IsForm m (multiple m a f)
is_form_multiple m a f pos i =
    form_of_terms m (scale m a (terms_of f)) ((a * constant_of f) % m) (mod_below (a * constant_of f) m pos)
    (are_terms_scale m a (terms_of f) pos (terms_of_form m f i))

pub is_form_difference : (m : ℕ) (f g : FormTree) → 0 < m → IsForm m f → IsForm m g → IsForm m (form_difference m f g)
is_form_difference m f g pos i j = is_form_sum m f (multiple m (m - 1) g) pos i (is_form_multiple m (m - 1) g pos j)

pub is_form_var : (m k : ℕ) → 1 < m → IsForm m (form_of_var k)
is_form_var m k h = ((omega arith, h), tt, omega (arith, h))

is_form_ordered_product : (m : ℕ) (f g : FormTree) → 1 < m → IsForm m f → IsForm m g → IsVarying f → IsVarying g → IsForm m (ordered_product f g)
is_form_ordered_product m f g h i j u v = by_cases (form_cmp f g) refl
  where
    by_cases : (o : Ordering) → form_cmp f g ≡ o → IsForm m (by_order o (product_term f g 1 (constant 0)) (product_term f g 1 (constant 0)) (product_term g f 1 (constant 0)))
    by_cases Less e = ((omega arith, h), tt, omega (arith, h), i, j, u, v, λ q. let d = sym e ∙ q in absurd cc)
    by_cases Equal e = ((omega arith, h), tt, omega (arith, h), i, j, u, v, λ q. let d = sym e ∙ q in absurd cc)
    by_cases Greater e = ((omega arith, h), tt, omega (arith, h), j, i, v, u, λ q. let d = sym q ∙ form_turned g f ∙ ap ordering_reverse e in absurd cc)

pub is_form_product : (m : ℕ) (f g : FormTree) → 1 < m → IsForm m f → IsForm m g → IsForm m (form_product m f g)
is_form_product m (constant c) g h i j = is_form_multiple m c g (omega (arith, h)) j
is_form_product m (var_term k t r) (constant d) h i j = is_form_multiple m d (var_term k t r) (omega (arith, h)) i
is_form_product m (var_term k t r) (var_term l u q) h i j = is_form_ordered_product m (var_term k t r) (var_term l u q) h i j tt tt
is_form_product m (var_term k t r) (product_term f g u q) h i j = is_form_ordered_product m (var_term k t r) (product_term f g u q) h i j tt tt
is_form_product m (product_term d e t r) (constant c) h i j = is_form_multiple m c (product_term d e t r) (omega (arith, h)) i
is_form_product m (product_term d e t r) (var_term k u q) h i j = is_form_ordered_product m (product_term d e t r) (var_term k u q) h i j tt tt
is_form_product m (product_term d e t r) (product_term f g u q) h i j = is_form_ordered_product m (product_term d e t r) (product_term f g u q) h i j tt tt

pub is_form_normal : (m : ℕ) (e : ExprTree) → 1 < m → IsForm m (normal_form m e)
is_form_normal m (number n) h = mod_below n m (omega (arith, h))
is_form_normal m (variable k) h = is_form_var m k h
is_form_normal m (plus e f) h = is_form_sum m (normal_form m e) (normal_form m f) (omega (arith, h)) (is_form_normal m e h) (is_form_normal m f h)
is_form_normal m (minus e f) h = is_form_difference m (normal_form m e) (normal_form m f) (omega (arith, h)) (is_form_normal m e h) (is_form_normal m f h)
is_form_normal m (times e f) h = is_form_product m (normal_form m e) (normal_form m f) h (is_form_normal m e h) (is_form_normal m f h)

is_form_var_replaced : (m j : ℕ) (by : FormTree) (k : ℕ) → 1 < m → IsForm m by → IsForm m (var_replaced j by k)
is_form_var_replaced m j by k h i = by_truth (nat_eq k j)
  where
    by_truth : (b : Bool) → IsForm m (if b then by else form_of_var k)
    by_truth true = i
    by_truth false = is_form_var m k h

pub is_form_replaced : (m j : ℕ) (by f : FormTree) → 1 < m → IsForm m by → IsForm m (replaced m j by f)
is_form_replaced m j by (constant c) h i = mod_below c m (omega (arith, h))
is_form_replaced m j by (var_term k t rest) h i =
    is_form_sum m (multiple m t (var_replaced j by k)) (replaced m j by rest) (omega (arith, h))
    (is_form_multiple m t (var_replaced j by k) (omega (arith, h)) (is_form_var_replaced m j by k h i)) (is_form_replaced m j by rest h i)
is_form_replaced m j by (product_term f g t rest) h i =
    is_form_sum m (multiple m t (form_product m (replaced m j by f) (replaced m j by g))) (replaced m j by rest) (omega (arith, h))
    (is_form_multiple m t (form_product m (replaced m j by f) (replaced m j by g)) (omega (arith, h))
    (is_form_product m (replaced m j by f) (replaced m j by g) h (is_form_replaced m j by f h i) (is_form_replaced m j by g h i)))
    (is_form_replaced m j by rest h i)

pub is_form_canonical : (m : ℕ) (f : FormTree) → 0 < m → IsForm m f → IsForm m (canonical m f)
is_form_canonical m f pos i = by_cases (slice_cmp nat_cmp (coefficients f) (map (negative_number m) (coefficients f)))
  where
    by_cases : (o : Ordering) → IsForm m (by_order o f f (negative m f))
    by_cases Less = i
    by_cases Equal = i
    by_cases Greater = is_form_multiple m (m - 1) f pos i

-- the forms of comparisons

is_cond_constantly : (m : ℕ) (b : Bool) → IsCondForm m (constantly b)
is_cond_constantly m true = tt
is_cond_constantly m false = tt

is_cond_opposite : (m : ℕ) (b : CondForm) → IsCondForm m b → IsCondForm m (opposite b)
is_cond_opposite m True i = tt
is_cond_opposite m False i = tt
is_cond_opposite m (Pos a) i = i
is_cond_opposite m (Neg a) i = i

pub is_cond_zero : (m : ℕ) (f : FormTree) → 0 < m → IsForm m f → IsCondForm m (zero_form m f)
is_cond_zero m (constant c) pos i = is_cond_constantly m (nat_eq c 0)
is_cond_zero m (var_term k t rest) pos i = is_form_canonical m (var_term k t rest) pos i
is_cond_zero m (product_term f g t rest) pos i = is_form_canonical m (product_term f g t rest) pos i

is_cond_if : (m : ℕ) (b : Bool) (x y : CondForm) → IsCondForm m x → IsCondForm m y → IsCondForm m (if b then x else y)
is_cond_if m true x y i j = i
is_cond_if m false x y i j = j

is_cond_varying_less : (m : ℕ) (e f : FormTree) → 0 < m → IsForm m e → IsForm m f → IsCondForm m (varying_less_form m e f)
is_cond_varying_less m e f pos i j =
    is_cond_if m (is_eq (form_cmp e f)) _ _ tt
    (is_cond_if m (is_constant f 0) _ _ tt
    (is_cond_if m (is_constant e (m - 1)) _ _ tt
    (is_cond_if m (is_constant f 1) _ _ (is_form_canonical m e pos i)
    (is_cond_if m (is_constant e 0) _ _ (is_form_canonical m f pos j)
    (i, j)))))

pub is_cond_less : (m : ℕ) (e f : FormTree) → 0 < m → IsForm m e → IsForm m f → IsCondForm m (less_form m e f)
is_cond_less m (constant c) (constant d) pos i j = is_cond_constantly m _
is_cond_less m (constant c) (var_term k t r) pos i j = is_cond_varying_less m (constant c) (var_term k t r) pos i j
is_cond_less m (constant c) (product_term f g t r) pos i j = is_cond_varying_less m (constant c) (product_term f g t r) pos i j
is_cond_less m (var_term k t r) g pos i j = is_cond_varying_less m (var_term k t r) g pos i j
is_cond_less m (product_term e f t r) g pos i j = is_cond_varying_less m (product_term e f t r) g pos i j

is_cond_compared : (m : ℕ) (rel : Rel) (e f : FormTree) → 0 < m → IsForm m e → IsForm m f → IsCondForm m (compared_form m rel e f)
is_cond_compared m Eq e f pos i j = is_cond_zero m (form_difference m e f) pos (is_form_difference m e f pos i j)
is_cond_compared m Ne e f pos i j = is_cond_opposite m (zero_form m (form_difference m e f)) (is_cond_zero m (form_difference m e f) pos (is_form_difference m e f pos i j))
is_cond_compared m Lt e f pos i j = is_cond_less m e f pos i j
is_cond_compared m Gt e f pos i j = is_cond_less m f e pos j i
is_cond_compared m Ge e f pos i j = is_cond_opposite m (less_form m e f) (is_cond_less m e f pos i j)
is_cond_compared m Le e f pos i j = is_cond_opposite m (less_form m f e) (is_cond_less m f e pos j i)

pub is_cond_comparison : (m : ℕ) (rel : Rel) (e f : ExprTree) → 1 < m → IsCondForm m (comparison_form m rel e f)
is_cond_comparison m rel e f h =
    is_cond_compared m rel (normal_form m e) (normal_form m f) (omega (arith, h)) (is_form_normal m e h) (is_form_normal m f h)

pub is_cond_substituted : (m j : ℕ) (by : FormTree) (a : Atomic) → 1 < m → IsForm m by → IsCondForm m (substituted m j by a)
is_cond_substituted m j by (Zero f) h i = is_cond_zero m (replaced m j by f) (omega (arith, h)) (is_form_replaced m j by f h i)
is_cond_substituted m j by (Below f g) h i =
    is_cond_less m (replaced m j by f) (replaced m j by g) (omega (arith, h)) (is_form_replaced m j by f h i) (is_form_replaced m j by g h i)
