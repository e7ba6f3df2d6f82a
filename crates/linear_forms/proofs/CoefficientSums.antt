-- Coefficients of sums and multiples, and forms with the same coefficients.
use Rattle.std.proofs.Common.{ℕ, ◌≡◌, ◌+◌, ◌*◌, ◌%◌, ◌<◌, nat_eq, Bool, true, false, if◌then◌else◌, List, [], ◌∷◌, refl, sym, ◌∙◌, ap, subst, arith, ◌⊎◌, inl, inr, Ordering, Less, Equal, Greater}
use Rattle.std.specs.Ordering.{is_eq}
use Rattle.std.proofs.lemmas.Bool.{cases_eq}
use Rattle.std.proofs.lemmas.Bool.Decides.{nat_tests}
use Rattle.std.proofs.Math.Nat.{mod-eq_of_lt, zero-mod, mul-zero}
use Rattle.linear_forms.specs.Forms.{FormTree, constant, var_term, product_term, MonoTree, TermTree, form_of, terms_of, constant_of}
use Rattle.linear_forms.specs.Order.{mono_cmp}
use Rattle.linear_forms.specs.Arithmetic.{by_order, put_nonzero, merge_onto, merge, scale, form_sum, multiple}
use Rattle.linear_forms.specs.NormalForms.{IsForm}
use Rattle.linear_forms.specs.Coefficients.{coefficient}
use Rattle.linear_forms.proofs.Terms.{terms_of-form_of, constant_of-form_of}
use Rattle.linear_forms.proofs.SameOrder.{same_mono, is_eq-true}
use Rattle.linear_forms.proofs.TotalOrder.{mono_itself, mono_turned}
use Rattle.linear_forms.proofs.Ascending.{IsBeforeAll, AreTerms, before_all_less, before_all_merge, before_all_scale, terms_of_form}

-- the coefficient of a monomial in a list of terms
abbrev pub coefficient_in : MonoTree → List TermTree → ℕ
coefficient_in p [] = 0
coefficient_in p (x ∷ xs) = if is_eq (mono_cmp p x.0) then x.1 else coefficient_in p xs

coefficient_by_terms : (p : MonoTree) (f : FormTree) → coefficient p f ≡ coefficient_in p (terms_of f)
coefficient_by_terms p (constant c) = refl
coefficient_by_terms p (var_term k t rest) = rw (coefficient_by_terms p rest) refl
coefficient_by_terms p (product_term f g t rest) = rw (coefficient_by_terms p rest) refl

coefficient-form_of : (p : MonoTree) (xs : List TermTree) (c : ℕ) → coefficient p (form_of xs c) ≡ coefficient_in p xs
coefficient-form_of p xs c = coefficient_by_terms p (form_of xs c) ∙ ap (coefficient_in p) (terms_of-form_of xs c)

-- monomials that compare as equal are the same
same_of_test : (p q : MonoTree) → is_eq (mono_cmp p q) ≡ true → p ≡ q
same_of_test p q h = same_mono p q (is_eq-true (mono_cmp p q) h)

-- the coefficient is 0 if all monomials of the list come after this one
coefficient_before : (p : MonoTree) (xs : List TermTree) → IsBeforeAll p xs → coefficient_in p xs ≡ 0
coefficient_before p [] b = refl
coefficient_before p (x ∷ xs) b = rw (b.0) (coefficient_before p xs b.1)

-- the same for a monomial that compares as equal
coefficient_before_same : (p q : MonoTree) (xs : List TermTree) → IsBeforeAll q xs → is_eq (mono_cmp p q) ≡ true → coefficient_in p xs ≡ 0
coefficient_before_same p q xs b e = subst (λ r. coefficient_in r xs ≡ 0) (sym (same_of_test p q e)) (coefficient_before q xs b)

coefficient_below : (m : ℕ) (p : MonoTree) (xs : List TermTree) → 0 < m → AreTerms m xs → coefficient_in p xs < m
coefficient_below m p [] h a = h
coefficient_below m p (x ∷ xs) h a = by_truth (is_eq (mono_cmp p x.0)) (coefficient_below m p xs h a.3)
  where
    by_truth : (b : Bool) → coefficient_in p xs < m → (if b then x.1 else coefficient_in p xs) < m
    by_truth true later = a.0.1
    by_truth false later = later

-- choices between two numbers

zero_or_rest : (b : Bool) (n : ℕ) → (b ≡ true → n ≡ 0) → n ≡ (if b then 0 else n)
zero_or_rest true n h = h refl
zero_or_rest false n h = refl

left_or_rest : (m : ℕ) (b : Bool) (t u v w : ℕ) → (b ≡ true → w ≡ 0) → t < m → u ≡ (v + w) % m → (if b then t else u) ≡ ((if b then t else v) + w) % m
left_or_rest m true t u v w h l e = rw (h refl) (sym (ap (λ n. n % m) (omega arith) ∙ mod-eq_of_lt {n = t} {m = m} l))
left_or_rest m false t u v w h l e = e

right_or_rest : (m : ℕ) (b : Bool) (t u v w : ℕ) → (b ≡ true → v ≡ 0) → t < m → u ≡ (v + w) % m → (if b then t else u) ≡ (v + (if b then t else w)) % m
right_or_rest m true t u v w h l e = rw (h refl) (sym (ap (λ n. n % m) (omega arith) ∙ mod-eq_of_lt {n = t} {m = m} l))
right_or_rest m false t u v w h l e = e

both_or_rest : (m : ℕ) (b : Bool) (t u v w z : ℕ) → z ≡ (v + w) % m → (if b then (t + u) % m else z) ≡ ((if b then t else v) + (if b then u else w)) % m
both_or_rest m true t u v w z e = refl
both_or_rest m false t u v w z e = e

scaled_or_rest : (m a : ℕ) (b : Bool) (t v z : ℕ) → z ≡ (a * v) % m → (if b then (a * t) % m else z) ≡ (a * (if b then t else v)) % m
scaled_or_rest m a true t v z e = refl
scaled_or_rest m a false t v z e = e

coefficient-put_nonzero : (p q : MonoTree) (t : ℕ) (xs : List TermTree) → IsBeforeAll q xs → coefficient_in p (put_nonzero q t xs) ≡ (if is_eq (mono_cmp p q) then t else coefficient_in p xs)
coefficient-put_nonzero p q t xs b = by_cases (cases_eq t 0)
  where
    by_cases : (t ≡ 0) ⊎ (t ≡ 0 → ⊥) → coefficient_in p (put_nonzero q t xs) ≡ (if is_eq (mono_cmp p q) then t else coefficient_in p xs)
    by_cases (inl z) = rw (z) (zero_or_rest (is_eq (mono_cmp p q)) (coefficient_in p xs) (coefficient_before_same p q xs b))
    by_cases (inr d) = let z : nat_eq t 0 ≡ false = grind (arith, nat_tests, d) in rw (z) refl

coefficient-merge_onto : (m : ℕ) (p : MonoTree) (x : TermTree) (xs : List TermTree) → 0 < m → AreTerms m (x ∷ xs) →
    ((zs : List TermTree) → AreTerms m zs → coefficient_in p (merge m xs zs) ≡ (coefficient_in p xs + coefficient_in p zs) % m) →
    (ys : List TermTree) → AreTerms m ys → coefficient_in p (merge_onto m x xs (merge m xs) ys) ≡ (coefficient_in p (x ∷ xs) + coefficient_in p ys) % m
coefficient-merge_onto m p x xs pos a h [] b =
    sym (ap (λ n. n % m) (omega arith) ∙ mod-eq_of_lt {n = coefficient_in p (x ∷ xs)} {m = m} (coefficient_below m p (x ∷ xs) pos a))
coefficient-merge_onto m p x xs pos a h (y ∷ ys) b = by_cases (mono_cmp x.0 y.0) refl (coefficient-merge_onto m p x xs pos a h ys b.3)
  where
    by_cases : (o : Ordering) → mono_cmp x.0 y.0 ≡ o → coefficient_in p (merge_onto m x xs (merge m xs) ys) ≡ (coefficient_in p (x ∷ xs) + coefficient_in p ys) % m →
        coefficient_in p (by_order o (x ∷ merge m xs (y ∷ ys)) (put_nonzero x.0 ((x.1 + y.1) % m) (merge m xs ys)) (y ∷ merge_onto m x xs (merge m xs) ys))
        ≡ (coefficient_in p (x ∷ xs) + coefficient_in p (y ∷ ys)) % m
    by_cases Less e later =
        left_or_rest m (is_eq (mono_cmp p x.0)) x.1 (coefficient_in p (merge m xs (y ∷ ys))) (coefficient_in p xs) (coefficient_in p (y ∷ ys))
        (coefficient_before_same p x.0 (y ∷ ys) (e, before_all_less x.0 y.0 ys e b.2)) a.0.1 (h (y ∷ ys) b)
    by_cases Equal e later =
        coefficient-put_nonzero p x.0 ((x.1 + y.1) % m) (merge m xs ys) (before_all_merge m x.0 xs ys a.2 (rw (same_mono x.0 y.0 e) b.2))
        ∙ rw (same_mono x.0 y.0 e) (both_or_rest m (is_eq (mono_cmp p y.0)) x.1 y.1 (coefficient_in p xs) (coefficient_in p ys) (coefficient_in p (merge m xs ys)) (h ys b.3))
    by_cases Greater e later =
        let l = mono_turned x.0 y.0 e in
        right_or_rest m (is_eq (mono_cmp p y.0)) y.1 (coefficient_in p (merge_onto m x xs (merge m xs) ys)) (coefficient_in p (x ∷ xs)) (coefficient_in p ys)
        (coefficient_before_same p y.0 (x ∷ xs) (l, before_all_less y.0 x.0 xs l a.2)) b.0.1 later

coefficient-merge : (m : ℕ) (p : MonoTree) (xs ys : List TermTree) → 0 < m → AreTerms m xs → AreTerms m ys → coefficient_in p (merge m xs ys) ≡ (coefficient_in p xs + coefficient_in p ys) % m
coefficient-merge m p [] ys pos a b = sym (ap (λ n. n % m) (omega arith) ∙ mod-eq_of_lt {n = coefficient_in p ys} {m = m} (coefficient_below m p ys pos b))
coefficient-merge m p (x ∷ xs) ys pos a b = coefficient-merge_onto m p x xs pos a (λ zs c. coefficient-merge m p xs zs pos a.3 c) ys b

coefficient-scale : (m a : ℕ) (p : MonoTree) (xs : List TermTree) → AreTerms m xs → coefficient_in p (scale m a xs) ≡ (a * coefficient_in p xs) % m
coefficient-scale m a p [] h = sym (rw (mul-zero a) (zero-mod m))
coefficient-scale m a p (x ∷ xs) h =
    coefficient-put_nonzero p x.0 ((a * x.1) % m) (scale m a xs) (before_all_scale m a x.0 xs h.2)
    ∙ scaled_or_rest m a (is_eq (mono_cmp p x.0)) x.1 (coefficient_in p xs) (coefficient_in p (scale m a xs)) (coefficient-scale m a p xs h.3)

pub coefficient-form_sum : (m : ℕ) (f g : FormTree) → 0 < m → IsForm m f → IsForm m g → (p : MonoTree) → coefficient p (form_sum m f g) ≡ (coefficient p f + coefficient p g) % m
coefficient-form_sum m f g pos i j p =
    coefficient-form_of p (merge m (terms_of f) (terms_of g)) ((constant_of f + constant_of g) % m)
    ∙ coefficient-merge m p (terms_of f) (terms_of g) pos (terms_of_form m f i) (terms_of_form m g j)
    ∙ rw (coefficient_by_terms p f, coefficient_by_terms p g) refl

pub coefficient-multiple : (m a : ℕ) (f : FormTree) → IsForm m f → (p : MonoTree) → coefficient p (multiple m a f) ≡ (a * coefficient p f) % m
coefficient-multiple m a f i p =
    coefficient-form_of p (scale m a (terms_of f)) ((a * constant_of f) % m)
    ∙ coefficient-scale m a p (terms_of f) (terms_of_form m f i)
    ∙ rw (coefficient_by_terms p f) refl

-- lists of terms with the same coefficients are the same

own_coefficient : (x : TermTree) (xs : List TermTree) → coefficient_in x.0 (x ∷ xs) ≡ x.1
own_coefficient x xs = rw (mono_itself x.0) refl

head_or_rest : (b : Bool) (t v w : ℕ) → (b ≡ true → v ≡ w) → (if b then t else v) ≡ (if b then t else w) → v ≡ w
head_or_rest true t v w h e = h refl
head_or_rest false t v w h e = e

same_terms : (m : ℕ) (xs ys : List TermTree) → AreTerms m xs → AreTerms m ys → ((p : MonoTree) → coefficient_in p xs ≡ coefficient_in p ys) → xs ≡ ys
same_terms m [] [] a b h = refl
same_terms m [] (y ∷ ys) a b h = let z : 0 ≡ y.1 = h y.0 ∙ own_coefficient y ys in let l = b.0.0 in absurd (omega (arith, z, l))
same_terms m (x ∷ xs) [] a b h = let z : 0 ≡ x.1 = sym (h x.0) ∙ own_coefficient x xs in let l = a.0.0 in absurd (omega (arith, z, l))
same_terms m (x ∷ xs) (y ∷ ys) a b h = by_cases (mono_cmp x.0 y.0) refl (same_terms m xs ys a.3 b.3)
  where
    by_cases : (o : Ordering) → mono_cmp x.0 y.0 ≡ o → (((p : MonoTree) → coefficient_in p xs ≡ coefficient_in p ys) → xs ≡ ys) → x ∷ xs ≡ y ∷ ys
    by_cases Less e later =
        let z : 0 ≡ x.1 = sym (coefficient_before x.0 (y ∷ ys) (e, before_all_less x.0 y.0 ys e b.2)) ∙ sym (h x.0) ∙ own_coefficient x xs in
        let l = a.0.0 in absurd (omega (arith, z, l))
    by_cases Greater e later =
        let k = mono_turned x.0 y.0 e in
        let z : 0 ≡ y.1 = sym (coefficient_before y.0 (x ∷ xs) (k, before_all_less y.0 x.0 xs k a.2)) ∙ h y.0 ∙ own_coefficient y ys in
        let l = b.0.0 in absurd (omega (arith, z, l))
    by_cases Equal e later =
        let same : x.0 ≡ y.0 = same_mono x.0 y.0 e in
        let value : x.1 ≡ y.1 = sym (own_coefficient x xs) ∙ h x.0 ∙ subst (λ q. coefficient_in q (y ∷ ys) ≡ y.1) (sym same) (own_coefficient y ys) in
        let pair : x ≡ y = (λ i. (same i, value i)) in
        let before : IsBeforeAll y.0 xs = subst (λ r. IsBeforeAll r xs) same a.2 in
        let rest : xs ≡ ys = later (λ p. head_or_rest (is_eq (mono_cmp p y.0)) y.1 (coefficient_in p xs) (coefficient_in p ys)
        (λ q. coefficient_before_same p y.0 xs before q ∙ sym (coefficient_before_same p y.0 ys b.2 q))
        (subst (λ (u : TermTree). (if is_eq (mono_cmp p u.0) then u.1 else coefficient_in p xs) ≡ coefficient_in p (y ∷ ys)) pair (h p))) in
        λ i. pair i ∷ rest i

pub form_by_terms : (f : FormTree) → form_of (terms_of f) (constant_of f) ≡ f
form_by_terms (constant c) = refl
form_by_terms (var_term k t rest) = ap (var_term k t) (form_by_terms rest)
form_by_terms (product_term f g t rest) = ap (product_term f g t) (form_by_terms rest)

pub same_form_by_coefficients : (m : ℕ) (f g : FormTree) → IsForm m f → IsForm m g → ((p : MonoTree) → coefficient p f ≡ coefficient p g) → constant_of f ≡ constant_of g → f ≡ g
same_form_by_coefficients m f g i j h e =
    sym (form_by_terms f)
    ∙ rw (same_terms m (terms_of f) (terms_of g) (terms_of_form m f i) (terms_of_form m g j) (λ p. sym (coefficient_by_terms p f) ∙ h p ∙ coefficient_by_terms p g), e) (form_by_terms g)

pub constant_of-form_sum : (m : ℕ) (f g : FormTree) → constant_of (form_sum m f g) ≡ (constant_of f + constant_of g) % m
constant_of-form_sum m f g = constant_of-form_of (merge m (terms_of f) (terms_of g)) ((constant_of f + constant_of g) % m)

pub constant_of-multiple : (m a : ℕ) (f : FormTree) → constant_of (multiple m a f) ≡ (a * constant_of f) % m
constant_of-multiple m a f = constant_of-form_of (scale m a (terms_of f)) ((a * constant_of f) % m)
