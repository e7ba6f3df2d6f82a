-- Equations of forms with 0 hold exactly when the narrower ones do.
use Rattle.std.proofs.Common.{◌≡◌, ℕ, ◌+◌, ◌-◌, ◌*◌, ◌%◌, ◌<◌, ◌≤◌, Bool, true, false, ◌&&◌, nat_eq, if◌then◌else◌, refl, sym, ◌∙◌, ap, subst, ◌⊎◌, inl, inr, arith, Ordering, Less, Equal, Greater}
use Rattle.std.proofs.Math.Nat.{mod-eq_of_lt, add-mod_right, mod_self}
use Rattle.std.proofs.lemmas.Bool.{and_parts, or_cases, cases_eq, cases_order}
use Rattle.std.proofs.lemmas.Bool.Decides.{nat_tests}
use Rattle.std.proofs.lemmas.Nat.{mod_below}
use Rattle.kat_model.specs.Stores.{bits, modulus}
use Rattle.kat_model.specs.declared.expression.Width.{Width}
use Rattle.kat_model.specs.declared.expression.Width.TheVariants.{W8, W16, W32, W64}
use Rattle.linear_forms.specs.Arithmetic.{by_order}
use Rattle.linear_forms.proofs.Modulo.{Cong, cong_add, cong_mul, cong_cut, negated}
use Rattle.linear_forms.proofs.StoredValues.{modulus_above_one}
use Rattle.flow_model.specs.Sorts.{State}
use Rattle.flow_model.specs.Interpretations.{Interpretation, conversion}
use Rattle.flow_forms.specs.Forms.{FlowFormTree, constant, term, one, factor, converted}
use Rattle.flow_forms.specs.Values.{polynomial}
use Rattle.flow_forms.specs.Order.{form_cmp}
use Rattle.flow_forms.specs.Arithmetic.{negative, form_difference}
use Rattle.flow_forms.specs.Conversions.{is_narrower, is_same_width, is_one, is_zero}
use Rattle.flow_forms.specs.Comparisons.{canonical, EquationTree, PartTree, conversion_is, are_opposite, is_same_sign, is_same_kind, is_widening, second_cell, second_product, with_number, after_part, first_cell, first_product, narrower_equation}
use Rattle.flow_forms.proofs.Polynomials.{polynomial-negative, value-form_difference}
use Rattle.flow_forms.proofs.Widths.{conversion_cut, conversion_below, conversion_drops}
use Rattle.flow_forms.proofs.ConvertedValues.{same_bits, no_cells, zero_form}

-- numbers

pub positive : (w : Width) → 0 < modulus w
positive w = let above = modulus_above_one w in omega (arith, above)

pub same_test : (a b c d : ℕ) → (a ≡ b → c ≡ d) → (c ≡ d → a ≡ b) → nat_eq a b ≡ nat_eq c d
same_test a b c d f g = by_cases (cases_eq a b)
  where
    by_cases : (a ≡ b) ⊎ (a ≡ b → ⊥) → nat_eq a b ≡ nat_eq c d
    by_cases (inl e) =
        let h = f e in
        let p : nat_eq a b ≡ true = grind (arith, nat_tests) in
        let q : nat_eq c d ≡ true = grind (arith, nat_tests) in
        p ∙ sym q
    by_cases (inr n) =
        let p : nat_eq a b ≡ false = grind (arith, nat_tests) in
        let k : c ≡ d → ⊥ = λ e. n (g e) in
        let q : nat_eq c d ≡ false = grind (arith, nat_tests) in
        p ∙ sym q

pub turned_test : (a b : ℕ) → nat_eq a b ≡ nat_eq b a
turned_test a b = same_test a b b a (λ e. sym e) (λ e. sym e)

-- a difference modulo m is 0 exactly if both numbers are the same
pub zero_difference : (m a b : ℕ) → a < m → b < m → nat_eq ((a + (m - b)) % m) 0 ≡ nat_eq a b
zero_difference m a b h k = same_test ((a + (m - b)) % m) 0 a b (by_order_of (cases_order a b)) back
  where
    by_order_of : (a ≡ b) ⊎ ((a < b) ⊎ (b < a)) → (a + (m - b)) % m ≡ 0 → a ≡ b
    by_order_of (inl e) z = e
    by_order_of (inr (inl l)) z =
        let small : a + (m - b) < m = omega arith in
        let value : a + (m - b) ≡ 0 = sym (mod-eq_of_lt small) ∙ z in
        absurd (omega arith)
    by_order_of (inr (inr l)) z =
        let whole : a + (m - b) ≡ (a - b) + m = omega arith in
        let small : a - b < m = omega arith in
        let value : a - b ≡ 0 = sym (mod-eq_of_lt small) ∙ sym (add-mod_right (a - b) m) ∙ ap (λ n. n % m) (sym whole) ∙ z in
        absurd (omega arith)

    back : a ≡ b → (a + (m - b)) % m ≡ 0
    back e = let whole : a + (m - b) ≡ m = omega arith in ap (λ n. n % m) whole ∙ mod_self m

value_below : (I : Interpretation) (s : State) (w : Width) (f : FlowFormTree) → polynomial I s f % modulus w < modulus w
value_below I s w f = mod_below (polynomial I s f) (modulus w) (positive w)

pub difference_test : (I : Interpretation) (s : State) (w : Width) (f g : FlowFormTree) → nat_eq (polynomial I s (form_difference (modulus w) f g) % modulus w) 0 ≡ nat_eq (polynomial I s f % modulus w) (polynomial I s g % modulus w)
difference_test I s w f g =
    ap (λ n. nat_eq n 0) (value-form_difference I s (modulus w) f g (positive w))
    ∙ zero_difference (modulus w) (polynomial I s f % modulus w) (polynomial I s g % modulus w) (value_below I s w f) (value_below I s w g)

-- the value of a conversion that keeps all bits gives back the value of its form
given_back : (signed : Bool) (v w : Width) (x : ℕ) → bits v ≤ bits w → x < modulus v → conversion signed v w x % modulus v ≡ x
given_back signed v w x h k =
    conversion_cut signed v w v x h ∙ conversion_drops signed v v x (omega arith) ∙ mod-eq_of_lt k

conversion_small : (signed : Bool) (v w : Width) (x : ℕ) → conversion signed v w x < modulus w
conversion_small signed v w x =
    subst (λ n. n < modulus w) (conversion_below signed v w x) (mod_below (conversion signed v w x) (modulus w) (positive w))

-- the value of the conversion that an equation is about
abbrev converted_value : Interpretation → State → Bool → Width → Width → FlowFormTree → ℕ
converted_value I s signed v w g = conversion signed v w (polynomial I s g % modulus v)

-- equations

abbrev pub equation_holds : Interpretation → State → EquationTree → Bool
equation_holds I s e = nat_eq (polynomial I s e.form % modulus e.width) 0

never_one : (w : Width) → nat_eq (1 % modulus w) 0 ≡ false
never_one W8 = refl
never_one W16 = refl
never_one W32 = refl
never_one W64 = refl

conversion_is_holds : (I : Interpretation) (s : State) (signed : Bool) (v w : Width) (g : FlowFormTree) (k : ℕ) → bits v ≤ bits w → equation_holds I s (conversion_is signed v w g k) ≡ nat_eq (converted_value I s signed v w g) k
conversion_is_holds I s signed v w g k h = by_cases (cases_eq (conversion signed v w (k % modulus v)) k)
  where
    given : conversion signed v w (polynomial I s g % modulus v) ≡ k → polynomial I s g % modulus v ≡ k % modulus v
    given e = sym (given_back signed v w (polynomial I s g % modulus v) h (value_below I s v g)) ∙ ap (λ n. n % modulus v) e

    small : k % modulus v < modulus v
    small = mod_below k (modulus v) (positive v)

    by_cases : (conversion signed v w (k % modulus v) ≡ k) ⊎ (conversion signed v w (k % modulus v) ≡ k → ⊥) → equation_holds I s (conversion_is signed v w g k) ≡ nat_eq (converted_value I s signed v w g) k
    by_cases (inl e) =
        let test : nat_eq (conversion signed v w (k % modulus v)) k ≡ true = grind (arith, nat_tests) in
        rw (test) (difference_test I s v g (constant (k % modulus v))
        ∙ ap (λ n. nat_eq (polynomial I s g % modulus v) n) (mod-eq_of_lt small)
        ∙ same_test (polynomial I s g % modulus v) (k % modulus v) (converted_value I s signed v w g) k
        (λ q. ap (λ n. conversion signed v w n) q ∙ e) given)
    by_cases (inr n) =
        let test : nat_eq (conversion signed v w (k % modulus v)) k ≡ false = grind (arith, nat_tests) in
        let other : conversion signed v w (polynomial I s g % modulus v) ≡ k → ⊥ = λ e. n (ap (λ x. conversion signed v w x) (sym (given e)) ∙ e) in
        let right : nat_eq (conversion signed v w (polynomial I s g % modulus v)) k ≡ false = grind (arith, nat_tests) in
        rw (test) (never_one w ∙ sym right)

-- x plus c is 0 exactly if x is the negative of c
plus_test : (m x c : ℕ) → 0 < m → x < m → nat_eq ((1 * (x * 1) + c) % m) 0 ≡ nat_eq x (((m - 1) * c) % m)
plus_test m x c p h =
    ap (λ n. nat_eq n 0)
    (cong_add m (1 * (x * 1)) x c (m - ((m - 1) * c) % m) (ap (λ n. n % m) (omega arith)) (sym (twice (cases_eq (c % m) 0))))
    ∙ zero_difference m x (((m - 1) * c) % m) h (mod_below ((m - 1) * c) m p)
  where
    rest : c % m < m
    rest = mod_below c m p

    opposite_is : ((m - 1) * c) % m ≡ (m - c % m) % m
    opposite_is = cong_mul m (m - 1) (m - 1) c (c % m) refl (sym (cong_cut m c)) ∙ negated m (c % m) rest

    whole_is : (m - 0) % m ≡ 0
    whole_is = let whole : m - 0 ≡ m = omega arith in ap (λ n. n % m) whole ∙ mod_self m

    twice : (c % m ≡ 0) ⊎ (c % m ≡ 0 → ⊥) → Cong m (m - ((m - 1) * c) % m) c
    twice (inl e) =
        let none : ((m - 1) * c) % m ≡ 0 = opposite_is ∙ ap (λ n. (m - n) % m) e ∙ whole_is in
        ap (λ n. (m - n) % m) none ∙ whole_is ∙ sym e
    twice (inr n) =
        let smaller : m - c % m < m = omega (arith, rest) in
        let value : ((m - 1) * c) % m ≡ m - c % m = opposite_is ∙ mod-eq_of_lt smaller in
        let again : m - (m - c % m) ≡ c % m = omega (arith, rest) in
        ap (λ n. (m - n) % m) value ∙ ap (λ n. n % m) again ∙ cong_cut m c

-- c minus x is 0 exactly if x is c
minus_test : (m x c : ℕ) → 0 < m → x < m → nat_eq (((m - 1) * (x * 1) + c) % m) 0 ≡ nat_eq x (c % m)
minus_test m x c p h =
    ap (λ n. nat_eq n 0)
    (cong_add m ((m - 1) * (x * 1)) (m - x) c (c % m) (ap (λ n. ((m - 1) * n) % m) (omega arith) ∙ negated m x h) (sym (cong_cut m c))
    ∙ ap (λ n. n % m) (omega arith))
    ∙ zero_difference m (c % m) x (mod_below c m p) h
    ∙ turned_test (c % m) x

abbrev part_value : Interpretation → State → EquationTree → PartTree → ℕ
part_value I s e part = conversion part.signed part.from e.width (polynomial I s part.form % modulus part.from)

with_number_holds : (I : Interpretation) (s : State) (e : EquationTree) (part : PartTree) (c : ℕ) → bits part.from ≤ bits e.width →
    polynomial I s e.form ≡ part.times * (part_value I s e part * 1) + c →
    equation_holds I s (with_number e part c) ≡ equation_holds I s e
with_number_holds I s e part c h q = by_cases (cases_eq part.times 1) (cases_eq part.times (modulus e.width - 1))
  where
    x_small : part_value I s e part < modulus e.width
    x_small = conversion_small part.signed part.from e.width (polynomial I s part.form % modulus part.from)

    by_cases : (part.times ≡ 1) ⊎ (part.times ≡ 1 → ⊥) → (part.times ≡ modulus e.width - 1) ⊎ (part.times ≡ modulus e.width - 1 → ⊥) →
        equation_holds I s (with_number e part c) ≡ equation_holds I s e
    by_cases (inl t) o =
        let test : nat_eq part.times 1 ≡ true = grind (arith, nat_tests) in
        rw (test) (conversion_is_holds I s part.signed part.from e.width part.form (((modulus e.width - 1) * c) % modulus e.width) h
        ∙ sym (ap (λ n. nat_eq (n % modulus e.width) 0) (q ∙ ap (λ t. t * (part_value I s e part * 1) + c) t)
        ∙ plus_test (modulus e.width) (part_value I s e part) c (positive e.width) x_small))
    by_cases (inr n) (inl t) =
        let test : nat_eq part.times 1 ≡ false = grind (arith, nat_tests) in
        let last : nat_eq part.times (modulus e.width - 1) ≡ true = grind (arith, nat_tests) in
        rw (test, last) (conversion_is_holds I s part.signed part.from e.width part.form (c % modulus e.width) h
        ∙ sym (ap (λ n. nat_eq (n % modulus e.width) 0) (q ∙ ap (λ t. t * (part_value I s e part * 1) + c) t)
        ∙ minus_test (modulus e.width) (part_value I s e part) c (positive e.width) x_small))
    by_cases (inr n) (inr k) =
        let test : nat_eq part.times 1 ≡ false = grind (arith, nat_tests) in
        let last : nat_eq part.times (modulus e.width - 1) ≡ false = grind (arith, nat_tests) in
        rw (test, last) refl

same_flag : (a b : Bool) → is_same_sign a b ≡ true → a ≡ b
same_flag false false e = refl
same_flag true true e = refl
same_flag _ _ e = absurd cc

record SameKind (signed : Bool) (v w : Width) (sign : Bool) (x y : Width) : Type 0 where
  same_sign : sign ≡ signed
  same_from : x ≡ v
  same_to : y ≡ w

kind_facts : (signed : Bool) (v w : Width) (sign : Bool) (x y : Width) → is_same_kind signed v w sign x y ≡ true → SameKind signed v w sign x y
kind_facts signed v w sign x y e =
    let outer = and_parts (is_same_sign signed sign && is_same_width x v) (is_same_width y w) e in
    let inner = and_parts (is_same_sign signed sign) (is_same_width x v) outer.0 in
    record { same_sign = sym (same_flag signed sign inner.0); same_from = same_bits x v inner.1; same_to = same_bits y w outer.1 }

abbrev Opposite : ℕ → ℕ → ℕ → Type 0
Opposite m t u = ((t ≡ 1) × (u ≡ m - 1)) ⊎ ((t ≡ m - 1) × (u ≡ 1))

opposite_facts : (m t u : ℕ) → are_opposite m t u ≡ true → Opposite m t u
opposite_facts m t u e = by_cases (or_cases (nat_eq t 1 && nat_eq u (m - 1)) (nat_eq t (m - 1) && nat_eq u 1) e)
  where
    by_cases : ((nat_eq t 1 && nat_eq u (m - 1)) ≡ true) ⊎ ((nat_eq t (m - 1) && nat_eq u 1) ≡ true) → Opposite m t u
    by_cases (inl b) = let p = and_parts (nat_eq t 1) (nat_eq u (m - 1)) b in inl (grind (arith, nat_tests, p.0), grind (arith, nat_tests, p.1))
    by_cases (inr b) = let p = and_parts (nat_eq t (m - 1)) (nat_eq u 1) b in inr (grind (arith, nat_tests, p.0), grind (arith, nat_tests, p.1))

opposite_test : (m t u x y : ℕ) → 0 < m → x < m → y < m → Opposite m t u → nat_eq ((t * (x * 1) + (u * (y * 1) + 0)) % m) 0 ≡ nat_eq x y
opposite_test m t u x y p h k (inl (a, b)) =
    ap (λ n. nat_eq n 0)
    (ap (λ n. (n * (x * 1) + (u * (y * 1) + 0)) % m) a
    ∙ ap (λ n. (1 * (x * 1) + (n * (y * 1) + 0)) % m) b
    ∙ cong_add m (1 * (x * 1)) x ((m - 1) * (y * 1) + 0) (m - y) (ap (λ n. n % m) (omega arith))
    (ap (λ n. n % m) (omega arith) ∙ negated m y k))
    ∙ zero_difference m x y h k
opposite_test m t u x y p h k (inr (a, b)) =
    ap (λ n. nat_eq n 0)
    (ap (λ n. (n * (x * 1) + (u * (y * 1) + 0)) % m) a
    ∙ ap (λ n. ((m - 1) * (x * 1) + (n * (y * 1) + 0)) % m) b
    ∙ cong_add m ((m - 1) * (x * 1)) (m - x) (1 * (y * 1) + 0) y (ap (λ n. ((m - 1) * n) % m) (omega arith) ∙ negated m x h)
    (ap (λ n. n % m) (omega arith))
    ∙ ap (λ n. n % m) (omega arith))
    ∙ zero_difference m y x k h
    ∙ turned_test y x

second_cell_holds : (I : Interpretation) (s : State) (e : EquationTree) (part : PartTree) (u : ℕ) (d : FlowFormTree) → bits part.from ≤ bits e.width →
    polynomial I s e.form ≡ part.times * (part_value I s e part * 1) + (u * (polynomial I s d * 1) + 0) →
    equation_holds I s (second_cell e part u d) ≡ equation_holds I s e
second_cell_holds I s e part u (converted sign x y h) k q =
    by_test (is_same_kind part.signed part.from e.width sign x y && are_opposite (modulus e.width) part.times u) facts
  where
    facts : (is_same_kind part.signed part.from e.width sign x y && are_opposite (modulus e.width) part.times u) ≡ true →
        SameKind part.signed part.from e.width sign x y × Opposite (modulus e.width) part.times u
    facts t =
        let both = and_parts (is_same_kind part.signed part.from e.width sign x y) (are_opposite (modulus e.width) part.times u) t in
        (kind_facts part.signed part.from e.width sign x y both.0, opposite_facts (modulus e.width) part.times u both.1)

    other_is : SameKind part.signed part.from e.width sign x y → polynomial I s (converted sign x y h) ≡ conversion part.signed part.from e.width (polynomial I s h % modulus part.from)
    other_is f = rw (f.same_sign, f.same_from, f.same_to) refl

    value_small : (z : ℕ) → conversion part.signed part.from e.width z < modulus e.width
    value_small z = conversion_small part.signed part.from e.width z

    forms_small : (f : FlowFormTree) → polynomial I s f % modulus part.from < modulus part.from
    forms_small f = value_below I s part.from f

    given : conversion part.signed part.from e.width (polynomial I s part.form % modulus part.from) ≡ conversion part.signed part.from e.width (polynomial I s h % modulus part.from) → polynomial I s part.form % modulus part.from ≡ polynomial I s h % modulus part.from
    given c =
        sym (given_back part.signed part.from e.width (polynomial I s part.form % modulus part.from) k (forms_small part.form))
        ∙ ap (λ n. n % modulus part.from) c
        ∙ given_back part.signed part.from e.width (polynomial I s h % modulus part.from) k (forms_small h)

    by_test : (b : Bool) → (b ≡ true → SameKind part.signed part.from e.width sign x y × Opposite (modulus e.width) part.times u) →
        equation_holds I s (if b then record { width = part.from; form = form_difference (modulus part.from) part.form h } else e) ≡ equation_holds I s e
    by_test true f =
        difference_test I s part.from part.form h
        ∙ same_test (polynomial I s part.form % modulus part.from) (polynomial I s h % modulus part.from)
        (part_value I s e part) (conversion part.signed part.from e.width (polynomial I s h % modulus part.from))
        (λ c. ap (λ n. conversion part.signed part.from e.width n) c) given
        ∙ sym (ap (λ n. nat_eq (n % modulus e.width) 0)
        (q ∙ ap (λ n. part.times * (part_value I s e part * 1) + (u * (n * 1) + 0)) (other_is (f refl).0))
        ∙ opposite_test (modulus e.width) part.times u (part_value I s e part) (conversion part.signed part.from e.width (polynomial I s h % modulus part.from))
        (positive e.width) (value_small (polynomial I s part.form % modulus part.from)) (value_small (polynomial I s h % modulus part.from)) (f refl).1)
    by_test false f = refl
second_cell_holds I s e part u d k q = refl

second_product_holds : (I : Interpretation) (s : State) (e : EquationTree) (part : PartTree) (u : ℕ) (p : FlowFormTree) → bits part.from ≤ bits e.width →
    polynomial I s e.form ≡ part.times * (part_value I s e part * 1) + (u * polynomial I s p + 0) →
    equation_holds I s (second_product e part u p) ≡ equation_holds I s e
second_product_holds I s e part u (factor d rest) k q = by_test (is_one rest) (no_cells rest)
  where
    by_test : (b : Bool) → (b ≡ true → rest ≡ one) → equation_holds I s (if b then second_cell e part u d else e) ≡ equation_holds I s e
    by_test true f =
        second_cell_holds I s e part u d k
        (q ∙ ap (λ r. part.times * (part_value I s e part * 1) + (u * (polynomial I s d * polynomial I s r) + 0)) (f refl))
    by_test false f = refl
second_product_holds I s e part u p k q = refl

after_part_holds : (I : Interpretation) (s : State) (e : EquationTree) (part : PartTree) (rest : FlowFormTree) → bits part.from ≤ bits e.width →
    polynomial I s e.form ≡ part.times * (part_value I s e part * 1) + polynomial I s rest →
    equation_holds I s (after_part e part rest) ≡ equation_holds I s e
after_part_holds I s e part (constant c) k q = with_number_holds I s e part c k q
after_part_holds I s e part (term u p end) k q = by_test (is_zero end) (zero_form end)
  where
    by_test : (b : Bool) → (b ≡ true → end ≡ constant 0) → equation_holds I s (if b then second_product e part u p else e) ≡ equation_holds I s e
    by_test true f =
        second_product_holds I s e part u p k
        (q ∙ ap (λ r. part.times * (part_value I s e part * 1) + (u * polynomial I s p + polynomial I s r)) (f refl))
    by_test false f = refl
after_part_holds I s e part rest k q = refl

first_cell_holds : (I : Interpretation) (s : State) (e : EquationTree) (t : ℕ) (rest c : FlowFormTree) →
    polynomial I s e.form ≡ t * (polynomial I s c * 1) + polynomial I s rest →
    equation_holds I s (first_cell e t rest c) ≡ equation_holds I s e
first_cell_holds I s e t rest (converted signed v w g) q = by_test (is_widening v w e.width) facts
  where
    facts : is_widening v w e.width ≡ true → (w ≡ e.width) × (bits v ≤ bits e.width)
    facts b =
        let both = and_parts (is_same_width w e.width) (is_narrower v w) b in
        let same = same_bits w e.width both.0 in
        let l : bits v ≤ bits w = grind (arith, nat_tests, both.1) in
        (same, subst (λ u. bits v ≤ bits u) same l)

    by_test : (b : Bool) → (b ≡ true → (w ≡ e.width) × (bits v ≤ bits e.width)) →
        equation_holds I s (if b then after_part e (record { times = t; signed = signed; from = v; form = g }) rest else e) ≡ equation_holds I s e
    by_test true f =
        after_part_holds I s e (record { times = t; signed = signed; from = v; form = g }) rest (f refl).1
        (q ∙ ap (λ u. t * (conversion signed v u (polynomial I s g % modulus v) * 1) + polynomial I s rest) (f refl).0)
    by_test false f = refl
first_cell_holds I s e t rest c q = refl

first_product_holds : (I : Interpretation) (s : State) (e : EquationTree) (t : ℕ) (rest p : FlowFormTree) →
    polynomial I s e.form ≡ t * polynomial I s p + polynomial I s rest →
    equation_holds I s (first_product e t rest p) ≡ equation_holds I s e
first_product_holds I s e t rest (factor c end) q = by_test (is_one end) (no_cells end)
  where
    by_test : (b : Bool) → (b ≡ true → end ≡ one) → equation_holds I s (if b then first_cell e t rest c else e) ≡ equation_holds I s e
    by_test true f =
        first_cell_holds I s e t rest c
        (q ∙ ap (λ r. t * (polynomial I s c * polynomial I s r) + polynomial I s rest) (f refl))
    by_test false f = refl
first_product_holds I s e t rest p q = refl

-- an equation holds exactly when the narrower one does
pub narrower_holds : (I : Interpretation) (s : State) (w : Width) (f : FlowFormTree) → equation_holds I s (narrower_equation w f) ≡ nat_eq (polynomial I s f % modulus w) 0
narrower_holds I s w (term t p rest) = first_product_holds I s (record { width = w; form = term t p rest }) t rest p refl
narrower_holds I s w f = refl

-- -f is 0 exactly when f is
negative_test : (I : Interpretation) (s : State) (w : Width) (f : FlowFormTree) → nat_eq (polynomial I s (negative (modulus w) f) % modulus w) 0 ≡ nat_eq (polynomial I s f % modulus w) 0
negative_test I s w f =
    ap (λ n. nat_eq n 0) (polynomial-negative I s (modulus w) f (positive w) ∙ ap (λ n. n % modulus w) (omega arith))
    ∙ zero_difference (modulus w) 0 (polynomial I s f % modulus w) (positive w) (value_below I s w f)
    ∙ turned_test 0 (polynomial I s f % modulus w)

pub canonical_test : (I : Interpretation) (s : State) (w : Width) (f : FlowFormTree) → nat_eq (polynomial I s (canonical (modulus w) f) % modulus w) 0 ≡ nat_eq (polynomial I s f % modulus w) 0
canonical_test I s w f = by_cases (form_cmp f (negative (modulus w) f))
  where
    by_cases : (o : Ordering) → nat_eq (polynomial I s (by_order o f f (negative (modulus w) f)) % modulus w) 0 ≡ nat_eq (polynomial I s f % modulus w) 0
    by_cases Less = refl
    by_cases Equal = refl
    by_cases Greater = negative_test I s w f
