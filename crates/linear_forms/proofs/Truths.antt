-- The normal forms of comparisons hold exactly when the comparisons do.
use Rattle.std.proofs.Common.{ℕ, ◌≡◌, ◌+◌, ◌-◌, ◌%◌, ◌<◌, ◌≤◌, ◌↔◌, nat_eq, nat_lt, Bool, true, false, not, if◌then◌else◌, map, set, length, refl, sym, ◌∙◌, ap, ◌⊎◌, inl, inr, arith, Ordering, Less, Equal, Greater, nat_cmp}
use Rattle.std.proofs.lemmas.Bool.Decides.{nat_tests}
use Rattle.std.proofs.lemmas.Bool.{cases_eq}
use Rattle.std.proofs.lemmas.Nat.{mod_below}
use Rattle.std.proofs.Math.Nat.{mod-eq_of_lt, mod_self, add-mul-mod_self_left}
use Rattle.std.specs.Ordering.{is_eq}
use Rattle.std.specs.Cmp.Lexicographic.{slice_cmp}
use Rattle.kat_model.specs.Expressions.{ExprTree}
use Rattle.kat_model.specs.Stores.{modulus, Store, IsStore, value, compares}
use Rattle.kat_model.specs.declared.expression.Width.{Width}
use Rattle.kat_model.specs.declared.expression.Rel.{Rel}
use Rattle.kat_model.specs.declared.expression.Rel.TheVariants.{Eq, Ne, Lt, Le, Gt, Ge}
use Rattle.linear_forms.specs.Forms.{FormTree, constant, var_term, product_term, terms_of, constant_of}
use Rattle.linear_forms.specs.Order.{form_cmp}
use Rattle.linear_forms.specs.Arithmetic.{by_order, merge, multiple, negative, form_sum, form_difference, form_product, normal_form}
use Rattle.linear_forms.specs.Values.{polynomial, form_value}
use Rattle.linear_forms.specs.Substitution.{var_replaced, replaced}
use Rattle.linear_forms.specs.Comparisons.{atomic_holds, cond_form_holds, coefficients, negative_number, canonical, constantly, opposite, zero_form, is_constant, varying_less_form, less_form, compared_form, comparison_form, substituted}
use Rattle.linear_forms.specs.declared.comparison.Atomic.{Atomic}
use Rattle.linear_forms.specs.declared.comparison.Atomic.TheVariants.{Zero, Less as Below}
use Rattle.linear_forms.specs.declared.comparison.CondForm.{CondForm}
use Rattle.linear_forms.specs.declared.comparison.CondForm.TheVariants.{True, False, Pos, Neg}
use Rattle.linear_forms.proofs.Terms.{constant_of-form_of}
use Rattle.linear_forms.proofs.Modulo.{cong_add}
use Rattle.linear_forms.proofs.SameOrder.{same_tree, is_eq-true}
use Rattle.linear_forms.proofs.Polynomials.{polynomial-negative, form_value-form_difference}
use Rattle.linear_forms.proofs.StoredValues.{modulus_above_one, form_value-normal_form, polynomial-replaced}
use Rattle.linear_forms.proofs.Ascending.{constant_of_form}
use Rattle.linear_forms.proofs.Forming.{is_form_normal}

-- -f is 0 exactly when f is
pub zero-negative : (m : ℕ) (s : Store) (f : FormTree) → 1 < m → nat_eq (form_value m s (negative m f)) 0 ≡ nat_eq (form_value m s f) 0
zero-negative m s f h = by_cases (cases_eq (form_value m s f) 0)
  where
    converse : form_value m s (negative m f) ≡ (m - form_value m s f) % m
    converse = polynomial-negative m s f (omega (arith, h))

    by_cases : (form_value m s f ≡ 0) ⊎ (form_value m s f ≡ 0 → ⊥) → nat_eq (form_value m s (negative m f)) 0 ≡ nat_eq (form_value m s f) 0
    by_cases (inl e) =
        let z : (m - form_value m s f) % m ≡ 0 = rw (e) (ap (λ n. n % m) (omega arith) ∙ mod_self m) in
        rw (converse, z, e) refl
    by_cases (inr d) =
        let b = mod_below (polynomial s f) m (omega (arith, h)) in
        let z : (m - form_value m s f) % m ≡ m - form_value m s f = mod-eq_of_lt (omega (arith, b, d, h)) in
        rw (converse, z) (grind (arith, nat_tests, b, d))

pub zero-canonical : (m : ℕ) (s : Store) (f : FormTree) → 1 < m → nat_eq (form_value m s (canonical m f)) 0 ≡ nat_eq (form_value m s f) 0
zero-canonical m s f h = by_cases (slice_cmp nat_cmp (coefficients f) (map (negative_number m) (coefficients f)))
  where
    by_cases : (o : Ordering) → nat_eq (form_value m s (by_order o f f (negative m f))) 0 ≡ nat_eq (form_value m s f) 0
    by_cases Less = refl
    by_cases Equal = refl
    by_cases Greater = zero-negative m s f h

constantly_holds : (m : ℕ) (s : Store) (b : Bool) → cond_form_holds m s (constantly b) ≡ b
constantly_holds m s true = refl
constantly_holds m s false = refl

not_not : (b : Bool) → not (not b) ≡ b
not_not true = refl
not_not false = refl

pub opposite_holds : (m : ℕ) (s : Store) (b : CondForm) → cond_form_holds m s (opposite b) ≡ not (cond_form_holds m s b)
opposite_holds m s True = refl
opposite_holds m s False = refl
opposite_holds m s (Pos a) = refl
opposite_holds m s (Neg a) = sym (not_not (atomic_holds m s a))

pub zero_form_holds : (m : ℕ) (s : Store) (f : FormTree) → 1 < m → constant_of f < m → cond_form_holds m s (zero_form m f) ≡ nat_eq (form_value m s f) 0
zero_form_holds m s (constant c) h p = constantly_holds m s (nat_eq c 0) ∙ rw (mod-eq_of_lt {n = c} {m = m} p) refl
zero_form_holds m s (var_term k t r) h p = zero-canonical m s (var_term k t r) h
zero_form_holds m s (product_term f g t r) h p = zero-canonical m s (product_term f g t r) h

constant_value : (m : ℕ) (s : Store) (f : FormTree) (d : ℕ) → d < m → is_constant f d ≡ true → form_value m s f ≡ d
constant_value m s (constant c) d h e = let q : c ≡ d = grind (arith, nat_tests, e) in rw (q) (mod-eq_of_lt h)
constant_value m s (var_term k t r) d h e = absurd cc
constant_value m s (product_term f g t r) d h e = absurd cc

picked : (m : ℕ) (s : Store) (b : Bool) (x y : CondForm) (v : Bool) → (b ≡ true → cond_form_holds m s x ≡ v) → (b ≡ false → cond_form_holds m s y ≡ v) → cond_form_holds m s (if b then x else y) ≡ v
picked m s true x y v p q = p refl
picked m s false x y v p q = q refl

varying_less_form_holds : (m : ℕ) (s : Store) (e f : FormTree) → 1 < m → cond_form_holds m s (varying_less_form m e f) ≡ nat_lt (form_value m s e) (form_value m s f)
varying_less_form_holds m s e f h =
    picked m s (is_eq (form_cmp e f)) _ _ _ (λ p. rw (same_tree e f (is_eq-true _ p)) (grind (arith, nat_tests)))
    (λ _. picked m s (is_constant f 0) _ _ _ (λ p. rw (constant_value m s f 0 (omega (arith, h)) p) (grind (arith, nat_tests)))
    (λ _. picked m s (is_constant e (m - 1)) _ _ _ (λ p. rw (constant_value m s e (m - 1) (omega (arith, h)) p) (let b = mod_below (polynomial s f) m (omega (arith, h)) in grind (arith, nat_tests, b)))
    (λ _. picked m s (is_constant f 1) _ _ _ (λ p. rw (constant_value m s f 1 h p, zero-canonical m s e h) (grind (arith, nat_tests)))
    (λ _. picked m s (is_constant e 0) _ _ _ (λ p. rw (constant_value m s e 0 (omega (arith, h)) p, zero-canonical m s f h) (grind (arith, nat_tests)))
    (λ _. refl)))))

pub less_form_holds : (m : ℕ) (s : Store) (e f : FormTree) → 1 < m → constant_of e < m → constant_of f < m →
    cond_form_holds m s (less_form m e f) ≡ nat_lt (form_value m s e) (form_value m s f)
less_form_holds m s (constant c) (constant d) h p q = constantly_holds m s (nat_lt c d) ∙ rw (mod-eq_of_lt {n = c} {m = m} p, mod-eq_of_lt {n = d} {m = m} q) refl
less_form_holds m s (constant c) (var_term k t r) h p q = varying_less_form_holds m s (constant c) (var_term k t r) h
less_form_holds m s (constant c) (product_term f g t r) h p q = varying_less_form_holds m s (constant c) (product_term f g t r) h
less_form_holds m s (var_term k t r) g h p q = varying_less_form_holds m s (var_term k t r) g h
less_form_holds m s (product_term e f t r) g h p q = varying_less_form_holds m s (product_term e f t r) g h

-- a difference is 0 exactly when both numbers are equal
zero_difference : (m a b : ℕ) → a < m → b < m → nat_eq ((a + (m - b)) % m) 0 ≡ nat_eq a b
zero_difference m a b p q = by_order_of (cases_eq a b) (nat_lt a b) refl
  where
    below : a < b → (a + (m - b)) % m ≡ a + (m - b)
    below l = mod-eq_of_lt (omega (arith, l, p, q))

    above : b ≤ a → (a + (m - b)) % m ≡ a - b
    above l =
        ap (λ n. n % m) (omega (arith, l, p, q)) ∙ add-mul-mod_self_left (a - b) m 1 ∙ mod-eq_of_lt (omega (arith, l, p, q))

    by_order_of : (a ≡ b) ⊎ (a ≡ b → ⊥) → (t : Bool) → nat_lt a b ≡ t → nat_eq ((a + (m - b)) % m) 0 ≡ nat_eq a b
    by_order_of (inl e) t k = let l : b ≤ a = omega (arith, e) in rw (above l) (grind (arith, nat_tests, e))
    by_order_of (inr d) true k = let l : a < b = grind (arith, nat_tests, k) in rw (below l) (grind (arith, nat_tests, l, p, q))
    by_order_of (inr d) false k = let l : b ≤ a = grind (arith, nat_tests, k) in rw (above l) (grind (arith, nat_tests, l, d))

pub form_value_below : (m : ℕ) (s : Store) (f : FormTree) → 0 < m → form_value m s f < m
form_value_below m s f h = mod_below (polynomial s f) m h

pub zero-form_difference : (m : ℕ) (s : Store) (e f : FormTree) → 1 < m → nat_eq (form_value m s (form_difference m e f)) 0 ≡ nat_eq (form_value m s e) (form_value m s f)
zero-form_difference m s e f h =
    ap (λ n. nat_eq n 0) (form_value-form_difference m s e f (omega (arith, h)))
    ∙ zero_difference m (form_value m s e) (form_value m s f) (form_value_below m s e (omega (arith, h))) (form_value_below m s f (omega (arith, h)))

pub constant_below_sum : (m : ℕ) (f g : FormTree) → 0 < m → constant_of (form_sum m f g) < m
constant_below_sum m f g h =
    rw (constant_of-form_of (merge m (terms_of f) (terms_of g)) ((constant_of f + constant_of g) % m)) (mod_below (constant_of f + constant_of g) m h)

pub compared_form_holds : (m : ℕ) (s : Store) (rel : Rel) (e f : FormTree) → 1 < m → constant_of e < m → constant_of f < m →
    cond_form_holds m s (compared_form m rel e f) ≡ compares rel (form_value m s e) (form_value m s f)
compared_form_holds m s Eq e f h p q =
    zero_form_holds m s (form_difference m e f) h (constant_below_sum m e (negative m f) (omega (arith, h))) ∙ zero-form_difference m s e f h
compared_form_holds m s Ne e f h p q =
    opposite_holds m s (zero_form m (form_difference m e f))
    ∙ ap not (zero_form_holds m s (form_difference m e f) h (constant_below_sum m e (negative m f) (omega (arith, h))) ∙ zero-form_difference m s e f h)
compared_form_holds m s Lt e f h p q = less_form_holds m s e f h p q
compared_form_holds m s Gt e f h p q = less_form_holds m s f e h q p
compared_form_holds m s Ge e f h p q = opposite_holds m s (less_form m e f) ∙ ap not (less_form_holds m s e f h p q)
compared_form_holds m s Le e f h p q = opposite_holds m s (less_form m f e) ∙ ap not (less_form_holds m s f e h q p)

pub comparison_form_holds : (w : Width) (s : Store) (rel : Rel) (e f : ExprTree) → IsStore w s →
    cond_form_holds (modulus w) s (comparison_form (modulus w) rel e f) ≡ compares rel (value w s e) (value w s f)
comparison_form_holds w s rel e f i =
    compared_form_holds (modulus w) s rel (normal_form (modulus w) e) (normal_form (modulus w) f) (modulus_above_one w)
    (constant_of_form (modulus w) (normal_form (modulus w) e) (is_form_normal (modulus w) e (modulus_above_one w)))
    (constant_of_form (modulus w) (normal_form (modulus w) f) (is_form_normal (modulus w) f (modulus_above_one w)))
    ∙ rw (form_value-normal_form w s e i, form_value-normal_form w s f i) refl

constant_below_replaced : (m j : ℕ) (by f : FormTree) → 0 < m → constant_of (replaced m j by f) < m
constant_below_replaced m j by (constant c) h = mod_below c m h
constant_below_replaced m j by (var_term k t rest) h = constant_below_sum m (multiple m t (var_replaced j by k)) (replaced m j by rest) h
constant_below_replaced m j by (product_term f g t rest) h =
    constant_below_sum m (multiple m t (form_product m (replaced m j by f) (replaced m j by g))) (replaced m j by rest) h

-- a comparison with a form in place of a variable holds exactly when it holds in the store with the variable set
pub substituted_holds : (m : ℕ) (s : Store) (j : ℕ) (by : FormTree) (a : Atomic) → 1 < m → j < length s →
    cond_form_holds m s (substituted m j by a) ≡ atomic_holds m (set s j (form_value m s by)) a
substituted_holds m s j by (Zero f) h l =
    zero_form_holds m s (replaced m j by f) h (constant_below_replaced m j by f (omega (arith, h)))
    ∙ ap (λ n. nat_eq n 0) (polynomial-replaced m s j by f l)
substituted_holds m s j by (Below f g) h l =
    less_form_holds m s (replaced m j by f) (replaced m j by g) h
    (constant_below_replaced m j by f (omega (arith, h))) (constant_below_replaced m j by g (omega (arith, h)))
    ∙ rw (polynomial-replaced m s j by f l, polynomial-replaced m s j by g l) refl

-- the same as propositions, for the laws

same_tests : (a b c d : ℕ) → nat_eq a b ≡ nat_eq c d → (a ≡ b) ↔ (c ≡ d)
same_tests a b c d h = (λ e. grind (arith, nat_tests, h, e), λ e. grind (arith, nat_tests, h, e))

pub equal-form_difference : (m : ℕ) (s : Store) (f g : FormTree) → 1 < m → (form_value m s (form_difference m f g) ≡ 0) ↔ (form_value m s f ≡ form_value m s g)
equal-form_difference m s f g h = same_tests _ _ _ _ (zero-form_difference m s f g h)

pub zero_value-canonical : (m : ℕ) (s : Store) (f : FormTree) → 1 < m → (form_value m s (canonical m f) ≡ 0) ↔ (form_value m s f ≡ 0)
zero_value-canonical m s f h = same_tests _ _ _ _ (zero-canonical m s f h)

-- forms whose difference is a constant have values that differ by this constant
pub apart-form_difference : (m : ℕ) (s : Store) (f g : FormTree) (c : ℕ) → 1 < m → form_difference m f g ≡ constant c → form_value m s f ≡ (form_value m s g + c) % m
apart-form_difference m s f g c h e =
    sym (cong_add m b b c (a + (m - b)) refl (sym difference)
    ∙ ap (λ n. n % m) (omega (arith, form_value_below m s g (omega (arith, h))))
    ∙ add-mul-mod_self_left a m 1
    ∙ mod-eq_of_lt (form_value_below m s f (omega (arith, h))))
  where
    a : ℕ
    a = form_value m s f

    b : ℕ
    b = form_value m s g

    difference : (a + (m - b)) % m ≡ c % m
    difference = sym (form_value-form_difference m s f g (omega (arith, h))) ∙ ap (form_value m s) e
