-- The normal form of a comparison is its own normal form.
use Rattle.std.proofs.Common.{ℕ, ◌≡◌, ◌-◌, ◌<◌, nat_eq, nat_lt, Bool, true, false, if◌then◌else◌, map, refl, ◌∙◌, ap, arith, ◌⊎◌, inl, inr, Ordering, Less, Equal, Greater, nat_cmp}
use Rattle.std.specs.Ordering.{is_eq}
use Rattle.std.specs.Cmp.Lexicographic.{slice_cmp}
use Rattle.kat_model.specs.Expressions.{ExprTree}
use Rattle.kat_model.specs.declared.expression.Rel.{Rel}
use Rattle.kat_model.specs.declared.expression.Rel.TheVariants.{Eq, Ne, Lt, Le, Gt, Ge}
use Rattle.linear_forms.specs.Forms.{FormTree, constant, var_term, product_term}
use Rattle.linear_forms.specs.Order.{form_cmp}
use Rattle.linear_forms.specs.Arithmetic.{by_order, negative, form_difference, normal_form}
use Rattle.linear_forms.specs.NormalForms.{IsVarying, IsForm}
use Rattle.linear_forms.specs.Substitution.{replaced}
use Rattle.linear_forms.specs.Comparisons.{coefficients, negative_number, canonical, constantly, opposite, zero_form, is_constant, varying_less_form, less_form, compared_form, comparison_form, substituted, IsSettled, IsSettledCond}
use Rattle.linear_forms.specs.declared.comparison.Atomic.{Atomic}
use Rattle.linear_forms.specs.declared.comparison.Atomic.TheVariants.{Zero, Less as Below}
use Rattle.linear_forms.specs.declared.comparison.CondForm.{CondForm}
use Rattle.linear_forms.specs.declared.comparison.CondForm.TheVariants.{True, False, Pos, Neg}
use Rattle.linear_forms.proofs.Forming.{is_form_difference, is_form_normal, is_form_replaced}
use Rattle.linear_forms.proofs.Negatives.{negative-var_term, negative-product_term, canonical-negative}

zero_form_of_varying : (m : ℕ) (f : FormTree) → IsVarying f → zero_form m f ≡ Pos (Zero (canonical m f))
zero_form_of_varying m (constant c) v = absurd v
zero_form_of_varying m (var_term k t rest) v = refl
zero_form_of_varying m (product_term f g t rest) v = refl

varying_negative : (m : ℕ) (f : FormTree) → IsForm m f → IsVarying f → IsVarying (negative m f)
varying_negative m (constant c) i v = absurd v
varying_negative m (var_term k t rest) i v = rw (negative-var_term m k t rest i.0.0 i.0.1) tt
varying_negative m (product_term f g t rest) i v = rw (negative-product_term m f g t rest i.0.0 i.0.1) tt

varying_canonical : (m : ℕ) (f : FormTree) → IsForm m f → IsVarying f → IsVarying (canonical m f)
varying_canonical m f i v = by_cases (slice_cmp nat_cmp (coefficients f) (map (negative_number m) (coefficients f)))
  where
    by_cases : (o : Ordering) → IsVarying (by_order o f f (negative m f))
    by_cases Less = v
    by_cases Equal = v
    by_cases Greater = varying_negative m f i v

canonical_twice : (m : ℕ) (f : FormTree) → 1 < m → IsForm m f → canonical m (canonical m f) ≡ canonical m f
canonical_twice m f h i = by_cases (slice_cmp nat_cmp (coefficients f) (map (negative_number m) (coefficients f))) refl
  where
    by_cases : (o : Ordering) → slice_cmp nat_cmp (coefficients f) (map (negative_number m) (coefficients f)) ≡ o →
        canonical m (by_order o f f (negative m f)) ≡ by_order o f f (negative m f)
    by_cases Less e = rw (e) refl
    by_cases Equal e = rw (e) refl
    by_cases Greater e = canonical-negative m f h i ∙ rw (e) refl

settled_zero : (m : ℕ) (f : FormTree) → 1 < m → IsForm m f → IsVarying f → IsSettled m (Zero (canonical m f))
settled_zero m f h i v =
    zero_form_of_varying m (canonical m f) (varying_canonical m f i v) ∙ ap (λ g. Pos (Zero g)) (canonical_twice m f h i)

settled_constantly : (m : ℕ) (b : Bool) → IsSettledCond m (constantly b)
settled_constantly m true = tt
settled_constantly m false = tt

settled_opposite : (m : ℕ) (b : CondForm) → IsSettledCond m b → IsSettledCond m (opposite b)
settled_opposite m True s = tt
settled_opposite m False s = tt
settled_opposite m (Pos a) s = s
settled_opposite m (Neg a) s = s

settled_zero_form : (m : ℕ) (f : FormTree) → 1 < m → IsForm m f → IsSettledCond m (zero_form m f)
settled_zero_form m (constant c) h i = settled_constantly m (nat_eq c 0)
settled_zero_form m (var_term k t rest) h i = settled_zero m (var_term k t rest) h i tt
settled_zero_form m (product_term f g t rest) h i = settled_zero m (product_term f g t rest) h i tt

chosen : (m : ℕ) (b : Bool) (x y : CondForm) → (b ≡ true → IsSettledCond m x) → (b ≡ false → IsSettledCond m y) → IsSettledCond m (if b then x else y)
chosen m true x y p q = p refl
chosen m false x y p q = q refl

-- if one of two forms is not constant, and the second one is constant, the first one is not constant
other_varies : (e f : FormTree) (d : ℕ) → IsVarying e ⊎ IsVarying f → is_constant f d ≡ true → IsVarying e
other_varies e (constant c) d (inl v) q = v
other_varies e (constant c) d (inr v) q = absurd v
other_varies e (var_term k t rest) d v q = absurd cc
other_varies e (product_term f g t rest) d v q = absurd cc

converse : {X Y : Type 0} → X ⊎ Y → Y ⊎ X
converse (inl x) = inr x
converse (inr y) = inl y

less_form_of_varying : (m : ℕ) (e f : FormTree) → IsVarying e ⊎ IsVarying f → less_form m e f ≡ varying_less_form m e f
less_form_of_varying m (constant c) (constant d) (inl v) = absurd v
less_form_of_varying m (constant c) (constant d) (inr v) = absurd v
less_form_of_varying m (constant c) (var_term k t r) v = refl
less_form_of_varying m (constant c) (product_term f g t r) v = refl
less_form_of_varying m (var_term k t r) g v = refl
less_form_of_varying m (product_term e f t r) g v = refl

settled_varying_less : (m : ℕ) (e f : FormTree) → 1 < m → IsForm m e → IsForm m f → IsVarying e ⊎ IsVarying f → IsSettledCond m (varying_less_form m e f)
settled_varying_less m e f h i j v =
    chosen m (is_eq (form_cmp e f)) _ _ (λ _. tt)
    (λ a. chosen m (is_constant f 0) _ _ (λ _. tt)
    (λ b. chosen m (is_constant e (m - 1)) _ _ (λ _. tt)
    (λ c. chosen m (is_constant f 1) _ _ (λ q. settled_zero m e h i (other_varies e f 1 v q))
    (λ d. chosen m (is_constant e 0) _ _ (λ q. settled_zero m f h j (other_varies f e 0 (converse v) q))
    (λ g. less_form_of_varying m e f v ∙ rw (a, b, c, d, g) refl)))))

settled_less_form : (m : ℕ) (e f : FormTree) → 1 < m → IsForm m e → IsForm m f → IsSettledCond m (less_form m e f)
settled_less_form m (constant c) (constant d) h i j = settled_constantly m (nat_lt c d)
settled_less_form m (constant c) (var_term k t r) h i j = settled_varying_less m (constant c) (var_term k t r) h i j (inr tt)
settled_less_form m (constant c) (product_term f g t r) h i j = settled_varying_less m (constant c) (product_term f g t r) h i j (inr tt)
settled_less_form m (var_term k t r) g h i j = settled_varying_less m (var_term k t r) g h i j (inl tt)
settled_less_form m (product_term e f t r) g h i j = settled_varying_less m (product_term e f t r) g h i j (inl tt)

settled_compared : (m : ℕ) (rel : Rel) (e f : FormTree) → 1 < m → IsForm m e → IsForm m f → IsSettledCond m (compared_form m rel e f)
settled_compared m Eq e f h i j = settled_zero_form m (form_difference m e f) h (is_form_difference m e f (omega (arith, h)) i j)
settled_compared m Ne e f h i j = settled_opposite m (zero_form m (form_difference m e f)) (settled_zero_form m (form_difference m e f) h (is_form_difference m e f (omega (arith, h)) i j))
settled_compared m Lt e f h i j = settled_less_form m e f h i j
settled_compared m Gt e f h i j = settled_less_form m f e h j i
settled_compared m Ge e f h i j = settled_opposite m (less_form m e f) (settled_less_form m e f h i j)
settled_compared m Le e f h i j = settled_opposite m (less_form m f e) (settled_less_form m f e h j i)

pub settled_comparison : (m : ℕ) (rel : Rel) (e f : ExprTree) → 1 < m → IsSettledCond m (comparison_form m rel e f)
settled_comparison m rel e f h = settled_compared m rel (normal_form m e) (normal_form m f) h (is_form_normal m e h) (is_form_normal m f h)

pub settled_substituted : (m j : ℕ) (by : FormTree) (a : Atomic) → 1 < m → IsForm m by → IsSettledCond m (substituted m j by a)
settled_substituted m j by (Zero f) h i = settled_zero_form m (replaced m j by f) h (is_form_replaced m j by f h i)
settled_substituted m j by (Below f g) h i = settled_less_form m (replaced m j by f) (replaced m j by g) h (is_form_replaced m j by f h i) (is_form_replaced m j by g h i)
