-- Sums, multiples and products of forms have the sums, multiples and products of their values.
use Rattle.std.proofs.Common.{ℕ, ◌≡◌, ◌+◌, ◌-◌, ◌*◌, ◌%◌, ◌<◌, nat_eq, false, List, [], ◌∷◌, refl, sym, ◌∙◌, ap, ◌⊎◌, inl, inr, arith, Ordering, Less, Equal, Greater}
use Rattle.std.proofs.Math.Nat.{mul_assoc, mul_comm, mul-add, add-mul}
use Rattle.std.proofs.lemmas.Bool.{cases_eq}
use Rattle.std.proofs.lemmas.Bool.Decides.{nat_tests}
use Rattle.std.proofs.lemmas.Nat.{mod_below}
use Rattle.kat_model.specs.Stores.{Store}
use Rattle.linear_forms.specs.Forms.{FormTree, constant, var_term, product_term, MonoTree, var, product, TermTree, form_of, terms_of, constant_of}
use Rattle.linear_forms.specs.Order.{form_cmp, mono_cmp}
use Rattle.linear_forms.specs.Arithmetic.{by_order, put_nonzero, merge_onto, merge, scale, form_sum, multiple, form_difference, ordered_product, form_product}
use Rattle.linear_forms.specs.Values.{polynomial, mono_polynomial, form_value}
use Rattle.linear_forms.proofs.Modulo.{Cong, cong_add, cong_mul, cong_cut, add-mod, negated}
use Rattle.linear_forms.proofs.SameOrder.{same_mono}

-- the value of a list of terms as a polynomial over the natural numbers
abbrev pub terms_polynomial : Store → List TermTree → ℕ
terms_polynomial s [] = 0
terms_polynomial s (x ∷ xs) = x.1 * mono_polynomial s x.0 + terms_polynomial s xs

pub polynomial-form_of : (s : Store) (xs : List TermTree) (c : ℕ) → polynomial s (form_of xs c) ≡ terms_polynomial s xs + c
polynomial-form_of s [] c = omega arith
polynomial-form_of s ((var k, t) ∷ xs) c = omega (arith, polynomial-form_of s xs c)
polynomial-form_of s ((product f g, t) ∷ xs) c = omega (arith, polynomial-form_of s xs c)

pub polynomial_by_terms : (s : Store) (f : FormTree) → polynomial s f ≡ terms_polynomial s (terms_of f) + constant_of f
polynomial_by_terms s (constant c) = omega arith
polynomial_by_terms s (var_term k t rest) = omega (arith, polynomial_by_terms s rest)
polynomial_by_terms s (product_term f g t rest) = omega (arith, polynomial_by_terms s rest)

pub terms_polynomial-put_nonzero : (s : Store) (p : MonoTree) (t : ℕ) (xs : List TermTree) → terms_polynomial s (put_nonzero p t xs) ≡ t * mono_polynomial s p + terms_polynomial s xs
terms_polynomial-put_nonzero s p t xs = by_cases (cases_eq t 0)
  where
    by_cases : (t ≡ 0) ⊎ (t ≡ 0 → ⊥) → terms_polynomial s (put_nonzero p t xs) ≡ t * mono_polynomial s p + terms_polynomial s xs
    by_cases (inl e) = rw (e) (omega arith)
    by_cases (inr d) = let n : nat_eq t 0 ≡ false = grind (arith, nat_tests, d) in rw (n) refl

terms_polynomial-merge_onto : (m : ℕ) (s : Store) (x : TermTree) (xs : List TermTree) (merge_rest : List TermTree → List TermTree) →
    ((ys : List TermTree) → Cong m (terms_polynomial s (merge_rest ys)) (terms_polynomial s xs + terms_polynomial s ys)) →
    (ys : List TermTree) → Cong m (terms_polynomial s (merge_onto m x xs merge_rest ys)) (terms_polynomial s (x ∷ xs) + terms_polynomial s ys)
terms_polynomial-merge_onto m s x xs merge_rest h [] = ap (λ n. n % m) (omega arith)
terms_polynomial-merge_onto m s x xs merge_rest h (y ∷ ys) =
    by_cases (mono_cmp x.0 y.0) (same_mono x.0 y.0) (terms_polynomial-merge_onto m s x xs merge_rest h ys)
  where
    by_cases : (o : Ordering) → (o ≡ Equal → x.0 ≡ y.0) → Cong m (terms_polynomial s (merge_onto m x xs merge_rest ys)) (terms_polynomial s (x ∷ xs) + terms_polynomial s ys) →
        Cong m (terms_polynomial s (by_order o (x ∷ merge_rest (y ∷ ys)) (put_nonzero x.0 ((x.1 + y.1) % m) (merge_rest ys)) (y ∷ merge_onto m x xs merge_rest ys)))
        (terms_polynomial s (x ∷ xs) + terms_polynomial s (y ∷ ys))
    by_cases Less e later =
        cong_add m (x.1 * mono_polynomial s x.0) (x.1 * mono_polynomial s x.0) _ _ refl (h (y ∷ ys)) ∙ ap (λ n. n % m) (omega arith)
    by_cases Equal e later =
        ap (λ n. n % m) (terms_polynomial-put_nonzero s x.0 ((x.1 + y.1) % m) (merge_rest ys))
        ∙ cong_add m _ _ _ _ (cong_mul m ((x.1 + y.1) % m) (x.1 + y.1) (mono_polynomial s x.0) (mono_polynomial s x.0) (cong_cut m (x.1 + y.1)) refl) (h ys)
        ∙ ap (λ n. n % m) (rw (add-mul x.1 y.1 (mono_polynomial s x.0)) (rw (e refl) (omega arith)))
    by_cases Greater e later =
        cong_add m (y.1 * mono_polynomial s y.0) (y.1 * mono_polynomial s y.0) _ _ refl later ∙ ap (λ n. n % m) (omega arith)

pub terms_polynomial-merge : (m : ℕ) (s : Store) (xs ys : List TermTree) → Cong m (terms_polynomial s (merge m xs ys)) (terms_polynomial s xs + terms_polynomial s ys)
terms_polynomial-merge m s [] ys = ap (λ n. n % m) (omega arith)
terms_polynomial-merge m s (x ∷ xs) ys = terms_polynomial-merge_onto m s x xs (merge m xs) (terms_polynomial-merge m s xs) ys

pub terms_polynomial-scale : (m : ℕ) (s : Store) (a : ℕ) (xs : List TermTree) → Cong m (terms_polynomial s (scale m a xs)) (a * terms_polynomial s xs)
terms_polynomial-scale m s a [] = ap (λ n. n % m) (omega arith)
terms_polynomial-scale m s a (x ∷ xs) =
    ap (λ n. n % m) (terms_polynomial-put_nonzero s x.0 ((a * x.1) % m) (scale m a xs))
    ∙ cong_add m _ _ _ _ (cong_mul m ((a * x.1) % m) (a * x.1) (mono_polynomial s x.0) (mono_polynomial s x.0) (cong_cut m (a * x.1)) refl) (terms_polynomial-scale m s a xs)
    ∙ ap (λ n. n % m) (rw (mul_assoc a x.1 (mono_polynomial s x.0)) (sym (mul-add a (x.1 * mono_polynomial s x.0) (terms_polynomial s xs))))

pub polynomial-form_sum : (m : ℕ) (s : Store) (f g : FormTree) → Cong m (polynomial s (form_sum m f g)) (polynomial s f + polynomial s g)
polynomial-form_sum m s f g =
    ap (λ n. n % m) (polynomial-form_of s (merge m (terms_of f) (terms_of g)) ((constant_of f + constant_of g) % m))
    ∙ cong_add m _ _ _ _ (terms_polynomial-merge m s (terms_of f) (terms_of g)) (cong_cut m (constant_of f + constant_of g))
    ∙ ap (λ n. n % m) (omega (arith, polynomial_by_terms s f, polynomial_by_terms s g))

pub polynomial-multiple : (m : ℕ) (s : Store) (a : ℕ) (f : FormTree) → Cong m (polynomial s (multiple m a f)) (a * polynomial s f)
polynomial-multiple m s a f =
    ap (λ n. n % m) (polynomial-form_of s (scale m a (terms_of f)) ((a * constant_of f) % m))
    ∙ cong_add m _ _ _ _ (terms_polynomial-scale m s a (terms_of f)) (cong_cut m (a * constant_of f))
    ∙ ap (λ n. n % m) (sym (mul-add a (terms_polynomial s (terms_of f)) (constant_of f)) ∙ ap (λ n. a * n) (sym (polynomial_by_terms s f)))

pub polynomial-negative : (m : ℕ) (s : Store) (f : FormTree) → 0 < m → Cong m (polynomial s (multiple m (m - 1) f)) (m - form_value m s f)
polynomial-negative m s f h =
    polynomial-multiple m s (m - 1) f
    ∙ cong_mul m (m - 1) (m - 1) (polynomial s f) (form_value m s f) refl (sym (cong_cut m (polynomial s f)))
    ∙ negated m (form_value m s f) (mod_below (polynomial s f) m h)

pub polynomial-form_difference : (m : ℕ) (s : Store) (f g : FormTree) → 0 < m → Cong m (polynomial s (form_difference m f g)) (polynomial s f + (m - form_value m s g))
polynomial-form_difference m s f g h =
    polynomial-form_sum m s f (multiple m (m - 1) g)
    ∙ cong_add m (polynomial s f) (polynomial s f) _ _ refl (polynomial-negative m s g h)

pub polynomial-ordered_product : (s : Store) (f g : FormTree) → polynomial s (ordered_product f g) ≡ polynomial s f * polynomial s g
polynomial-ordered_product s f g = by_cases (form_cmp f g)
  where
    by_cases : (o : Ordering) → polynomial s (by_order o (product_term f g 1 (constant 0)) (product_term f g 1 (constant 0)) (product_term g f 1 (constant 0))) ≡ polynomial s f * polynomial s g
    by_cases Less = omega arith
    by_cases Equal = omega arith
    by_cases Greater = omega (arith, mul_comm (polynomial s g) (polynomial s f))

pub polynomial-form_product : (m : ℕ) (s : Store) (f g : FormTree) → Cong m (polynomial s (form_product m f g)) (polynomial s f * polynomial s g)
polynomial-form_product m s (constant c) g = polynomial-multiple m s c g
polynomial-form_product m s (var_term j t r) (constant d) = polynomial-multiple m s d (var_term j t r) ∙ ap (λ n. n % m) (mul_comm d (polynomial s (var_term j t r)))
polynomial-form_product m s (var_term j t r) (var_term k u q) = ap (λ n. n % m) (polynomial-ordered_product s (var_term j t r) (var_term k u q))
polynomial-form_product m s (var_term j t r) (product_term f g u q) = ap (λ n. n % m) (polynomial-ordered_product s (var_term j t r) (product_term f g u q))
polynomial-form_product m s (product_term d e t r) (constant c) = polynomial-multiple m s c (product_term d e t r) ∙ ap (λ n. n % m) (mul_comm c (polynomial s (product_term d e t r)))
polynomial-form_product m s (product_term d e t r) (var_term k u q) = ap (λ n. n % m) (polynomial-ordered_product s (product_term d e t r) (var_term k u q))
polynomial-form_product m s (product_term d e t r) (product_term f g u q) = ap (λ n. n % m) (polynomial-ordered_product s (product_term d e t r) (product_term f g u q))

-- the values themselves

pub form_value-form_sum : (m : ℕ) (s : Store) (f g : FormTree) → form_value m s (form_sum m f g) ≡ (form_value m s f + form_value m s g) % m
form_value-form_sum m s f g = polynomial-form_sum m s f g ∙ sym (add-mod (polynomial s f) (polynomial s g) m)

pub form_value-form_difference : (m : ℕ) (s : Store) (f g : FormTree) → 0 < m → form_value m s (form_difference m f g) ≡ (form_value m s f + (m - form_value m s g)) % m
form_value-form_difference m s f g h =
    polynomial-form_difference m s f g h
    ∙ cong_add m _ _ _ _ (sym (cong_cut m (polynomial s f))) refl

pub form_value-multiple : (m : ℕ) (s : Store) (a : ℕ) (f : FormTree) → form_value m s (multiple m a f) ≡ (a * form_value m s f) % m
form_value-multiple m s a f = polynomial-multiple m s a f ∙ cong_mul m a a (polynomial s f) (form_value m s f) refl (sym (cong_cut m (polynomial s f)))

pub form_value-form_product : (m : ℕ) (s : Store) (f g : FormTree) → form_value m s (form_product m f g) ≡ (form_value m s f * form_value m s g) % m
form_value-form_product m s f g =
    polynomial-form_product m s f g
    ∙ cong_mul m (polynomial s f) (form_value m s f) (polynomial s g) (form_value m s g) (sym (cong_cut m (polynomial s f))) (sym (cong_cut m (polynomial s g)))
