-- Negatives of forms, and the common canonical form of a form and its negative.
use Rattle.std.proofs.Common.{ℕ, ◌≡◌, ◌≢◌, ◌-◌, ◌<◌, nat_eq, false, [], ◌∷◌, map, refl, sym, ◌∙◌, ap, arith, ◌⊎◌, inl, inr, Ordering, Less, Equal, Greater, nat_cmp}
use Rattle.std.specs.Ordering.{ordering_reverse}
use Rattle.std.specs.Cmp.Lexicographic.{slice_cmp}
use Rattle.std.proofs.lemmas.Cmp.{nat_list_cmp_total}
use Rattle.std.proofs.lemmas.Bool.{cases_eq}
use Rattle.std.proofs.lemmas.Bool.Decides.{nat_tests}
use Rattle.std.proofs.Math.Nat.{mod-eq_of_lt, zero-mod, mul-zero}
use Rattle.linear_forms.specs.Forms.{FormTree, constant, var_term, product_term}
use Rattle.linear_forms.specs.Arithmetic.{by_order, negative}
use Rattle.linear_forms.specs.NormalForms.{IsForm}
use Rattle.linear_forms.specs.Comparisons.{coefficients, negative_number, canonical}
use Rattle.linear_forms.proofs.Modulo.{negated}
use Rattle.linear_forms.proofs.SameOrder.{then_equal, same_number}

-- the negative of a number n other than 0 is m - n
negative_below : (m n : ℕ) → 0 < n → n < m → negative_number m n ≡ m - n
negative_below m n h l = negated m n l ∙ mod-eq_of_lt (omega (arith, h, l))

-- a number below m is the negative of its negative
pub negative_number_twice : (m n : ℕ) → n < m → negative_number m (negative_number m n) ≡ n
negative_number_twice m n l = by_cases (cases_eq n 0)
  where
    by_cases : (n ≡ 0) ⊎ (n ≡ 0 → ⊥) → negative_number m (negative_number m n) ≡ n
    by_cases (inl e) = rw (e, mul-zero (m - 1), zero-mod m, mul-zero (m - 1)) (zero-mod m)
    by_cases (inr d) =
        let a = negative_below m n (omega (arith, d)) l in
        rw (a) (negative_below m (m - n) (omega (arith, l)) (omega (arith, d, l)) ∙ omega (arith, l))

pub negative-var_term : (m k t : ℕ) (rest : FormTree) → 0 < t → t < m → negative m (var_term k t rest) ≡ var_term k (negative_number m t) (negative m rest)
negative-var_term m k t rest h l =
    let e = negative_below m t h l in
    let z : nat_eq (negative_number m t) 0 ≡ false = rw (e) (grind (arith, nat_tests, h, l)) in
    rw (z) refl

pub negative-product_term : (m : ℕ) (f g : FormTree) (t : ℕ) (rest : FormTree) → 0 < t → t < m → negative m (product_term f g t rest) ≡ product_term f g (negative_number m t) (negative m rest)
negative-product_term m f g t rest h l =
    let e = negative_below m t h l in
    let z : nat_eq (negative_number m t) 0 ≡ false = rw (e) (grind (arith, nat_tests, h, l)) in
    rw (z) refl

-- the coefficients of -f are the negatives of those of f
pub coefficients-negative : (m : ℕ) (f : FormTree) → IsForm m f → coefficients (negative m f) ≡ map (negative_number m) (coefficients f)
coefficients-negative m (constant c) i = refl
coefficients-negative m (var_term k t rest) i = rw (negative-var_term m k t rest i.0.0 i.0.1) (ap (λ ns. negative_number m t ∷ ns) (coefficients-negative m rest i.2))
coefficients-negative m (product_term f g t rest) i =
    rw (negative-product_term m f g t rest i.0.0 i.0.1) (ap (λ ns. negative_number m t ∷ ns) (coefficients-negative m rest i.2))

negative_numbers : (m : ℕ) (f : FormTree) → IsForm m f → map (negative_number m) (map (negative_number m) (coefficients f)) ≡ coefficients f
negative_numbers m (constant c) i = ap (λ n. n ∷ []) (negative_number_twice m c i)
negative_numbers m (var_term k t rest) i = λ j. negative_number_twice m t i.0.1 j ∷ negative_numbers m rest i.2 j
negative_numbers m (product_term f g t rest) i = λ j. negative_number_twice m t i.0.1 j ∷ negative_numbers m rest i.2 j

below_of : (m t : ℕ) → 0 < t → t < m → (0 < negative_number m t) × (negative_number m t < m)
below_of m t h l = let e = negative_below m t h l in rw (e) (omega (arith, l), omega (arith, h, l))

pub negative_negative : (m : ℕ) (f : FormTree) → 1 < m → IsForm m f → negative m (negative m f) ≡ f
negative_negative m (constant c) h i = ap constant (negative_number_twice m c i)
negative_negative m (var_term k t rest) h i =
    let b = below_of m t i.0.0 i.0.1 in
    rw (negative-var_term m k t rest i.0.0 i.0.1, negative-var_term m k (negative_number m t) (negative m rest) b.0 b.1, negative_number_twice m t i.0.1)
    (ap (var_term k t) (negative_negative m rest h i.2))
negative_negative m (product_term f g t rest) h i =
    let b = below_of m t i.0.0 i.0.1 in
    rw (negative-product_term m f g t rest i.0.0 i.0.1, negative-product_term m f g (negative_number m t) (negative m rest) b.0 b.1, negative_number_twice m t i.0.1)
    (ap (product_term f g t) (negative_negative m rest h i.2))

-- a form whose coefficients are their own negatives is its own negative
own_negative : (m : ℕ) (f : FormTree) → IsForm m f → slice_cmp nat_cmp (coefficients f) (map (negative_number m) (coefficients f)) ≡ Equal → negative m f ≡ f
own_negative m (constant c) i e = ap constant (sym (same_number c (negative_number m c) (then_equal _ _ e).0))
own_negative m (var_term k t rest) i e =
    let p = then_equal _ _ e in
    rw (negative-var_term m k t rest i.0.0 i.0.1, ← same_number t (negative_number m t) p.0) (ap (var_term k t) (own_negative m rest i.2 p.1))
own_negative m (product_term f g t rest) i e =
    let p = then_equal _ _ e in
    rw (negative-product_term m f g t rest i.0.0 i.0.1, ← same_number t (negative_number m t) p.0) (ap (product_term f g t) (own_negative m rest i.2 p.1))

pub canonical-negative : (m : ℕ) (f : FormTree) → 1 < m → IsForm m f → canonical m (negative m f) ≡ canonical m f
canonical-negative m f h i =
    rw (coefficients-negative m f i, negative_numbers m f i, converse) (by_cases (slice_cmp nat_cmp (coefficients f) (map (negative_number m) (coefficients f))) refl)
  where
    converse : slice_cmp nat_cmp (map (negative_number m) (coefficients f)) (coefficients f) ≡ ordering_reverse (slice_cmp nat_cmp (coefficients f) (map (negative_number m) (coefficients f)))
    converse = nat_list_cmp_total.antisymm (map (negative_number m) (coefficients f)) (coefficients f)

    by_cases : (o : Ordering) → slice_cmp nat_cmp (coefficients f) (map (negative_number m) (coefficients f)) ≡ o →
        by_order (ordering_reverse o) (negative m f) (negative m f) (negative m (negative m f)) ≡ by_order o f f (negative m f)
    by_cases Less e = negative_negative m f h i
    by_cases Equal e = own_negative m f i e
    by_cases Greater e = refl

-- the canonical form has the lesser list of coefficients
pub lesser-canonical : (m : ℕ) (f : FormTree) → 1 < m → IsForm m f → slice_cmp nat_cmp (coefficients (canonical m f)) (coefficients (negative m (canonical m f))) ≢ Greater
lesser-canonical m f h i = by_cases (slice_cmp nat_cmp (coefficients f) (map (negative_number m) (coefficients f))) refl
  where
    negatives : coefficients (negative m f) ≡ map (negative_number m) (coefficients f)
    negatives = coefficients-negative m f i

    by_cases : (o : Ordering) → slice_cmp nat_cmp (coefficients f) (map (negative_number m) (coefficients f)) ≡ o →
        slice_cmp nat_cmp (coefficients (by_order o f f (negative m f))) (coefficients (negative m (by_order o f f (negative m f)))) ≢ Greater
    by_cases Less e = rw (negatives) (λ q. let d = sym e ∙ q in absurd cc)
    by_cases Equal e = rw (negatives) (λ q. let d = sym e ∙ q in absurd cc)
    by_cases Greater e = rw (negative_negative m f h i, negatives)
        (λ q. let d = sym (nat_list_cmp_total.antisymm (map (negative_number m) (coefficients f)) (coefficients f) ∙ ap ordering_reverse e) ∙ q in absurd cc)
