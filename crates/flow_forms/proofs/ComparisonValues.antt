-- The normal forms of comparisons hold exactly when the comparisons do.
use Rattle.std.proofs.Common.{◌≡◌, ℕ, ◌+◌, ◌-◌, ◌*◌, ◌%◌, ◌^◌, ◌<◌, ◌≤◌, Bool, true, false, not, nat_eq, nat_lt, if◌then◌else◌, refl, sym, ◌∙◌, ap, subst, ◌⊎◌, inl, inr, arith, Ordering, Less, Equal, Greater}
use Rattle.std.proofs.Math.Nat.{mod-eq_of_lt, mod_self}
use Rattle.std.proofs.lemmas.Bool.{and_parts, cases_eq, cases_lt}
use Rattle.std.proofs.lemmas.Bool.Decides.{nat_tests}
use Rattle.std.proofs.lemmas.Nat.{mod_below}
use Rattle.std.specs.Ordering.{is_eq}
use Rattle.kat_model.specs.Stores.{bits, modulus, compares}
use Rattle.kat_model.specs.declared.expression.Width.{Width}
use Rattle.kat_model.specs.declared.expression.Width.TheVariants.{W8, W16, W32, W64}
use Rattle.kat_model.specs.declared.expression.Rel.{Rel}
use Rattle.kat_model.specs.declared.expression.Rel.TheVariants.{Eq, Ne, Lt, Le, Gt, Ge}
use Rattle.linear_forms.specs.Arithmetic.{by_order}
use Rattle.linear_forms.proofs.SameOrder.{is_eq-true}
use Rattle.linear_forms.proofs.StoredValues.{modulus_above_one}
use Rattle.flow_model.specs.Sorts.{State}
use Rattle.flow_model.specs.Interpretations.{Interpretation, biased}
use Rattle.flow_forms.specs.Forms.{FlowFormTree, constant, term, one, factor, converted}
use Rattle.flow_forms.specs.Values.{polynomial}
use Rattle.flow_forms.specs.Order.{form_cmp}
use Rattle.flow_forms.specs.Arithmetic.{form_sum, form_difference}
use Rattle.flow_forms.specs.Conversions.{is_narrower, is_same_width, is_one, is_alone}
use Rattle.flow_forms.specs.Comparisons.{FlowLiteralTree, decided, holding, failing, literal_holds, opposite, is_widening, narrower_equation, settled_equation, zero_literal, BoundTree, bounded_conversion, bounded_cell, bounded_product, narrower_bound, varying_bound, settled_bound, below_number, above_number, varying_less, less_than, less_literal, same_literal, same_form, compared_numbers, biased_form, compared_signed, less_form}
use Rattle.flow_forms.proofs.SameForms.{same_form as equal_forms}
use Rattle.flow_forms.proofs.Polynomials.{value-form_sum}
use Rattle.flow_forms.proofs.ConvertedValues.{same_bits, no_cells, product_alone}
use Rattle.flow_forms.proofs.Widths.{unchanged}
use Rattle.flow_forms.proofs.EquationValues.{positive, difference_test, narrower_holds, canonical_test}

-- the value of a form of a width
abbrev number_of : Interpretation → State → Width → FlowFormTree → ℕ
number_of I s w f = polynomial I s f % modulus w

number_below : (I : Interpretation) (s : State) (w : Width) (f : FlowFormTree) → number_of I s w f < modulus w
number_below I s w f = mod_below (polynomial I s f) (modulus w) (positive w)

pub holds-opposite : (I : Interpretation) (s : State) (l : FlowLiteralTree) → literal_holds I s (opposite l) ≡ not (literal_holds I s l)
holds-opposite I s (decided b) = refl
holds-opposite I s (holding c) = refl
holds-opposite I s (failing c) = sym (not_not _)
  where
    not_not : (b : Bool) → not (not b) ≡ b
    not_not true = refl
    not_not false = refl

holds-settled_equation : (I : Interpretation) (s : State) (w : Width) (f : FlowFormTree) → literal_holds I s (settled_equation w f) ≡ nat_eq (number_of I s w f) 0
holds-settled_equation I s w (constant c) = refl
holds-settled_equation I s w f = canonical_test I s w f

pub holds-zero_literal : (I : Interpretation) (s : State) (w : Width) (f : FlowFormTree) → literal_holds I s (zero_literal w f) ≡ nat_eq (number_of I s w f) 0
holds-zero_literal I s w f =
    let first = narrower_equation w f in
    let second = narrower_equation first.width first.form in
    let third = narrower_equation second.width second.form in
    holds-settled_equation I s third.width third.form
    ∙ narrower_holds I s second.width second.form
    ∙ narrower_holds I s first.width first.form
    ∙ narrower_holds I s w f

-- bounds

abbrev bound_holds : Interpretation → State → BoundTree → Bool
bound_holds I s b = nat_lt (polynomial I s b.form % modulus b.width) b.number

-- a bound means the same as another, and its number is one of its width
record Means (I : Interpretation) (s : State) (a b : BoundTree) : Type 0 where
  same : bound_holds I s a ≡ bound_holds I s b
  small : b.number < modulus b.width → a.number < modulus a.width

itself : (I : Interpretation) (s : State) (b : BoundTree) → Means I s b b
itself I s b = record { same = refl; small = λ h. h }

zero_below_one : (w : Width) → nat_lt (0 % modulus w) 1 ≡ true
zero_below_one W8 = refl
zero_below_one W16 = refl
zero_below_one W32 = refl
zero_below_one W64 = refl

bounded_conversion_means : (I : Interpretation) (s : State) (e : BoundTree) (v : Width) (g : FlowFormTree) → bits v < bits e.width →
    polynomial I s e.form % modulus e.width ≡ polynomial I s g % modulus v % modulus e.width →
    Means I s (bounded_conversion e v g) e
bounded_conversion_means I s e v g h q = by_test (cases_lt e.number (modulus v))
  where
    value : polynomial I s e.form % modulus e.width ≡ polynomial I s g % modulus v
    value = q ∙ unchanged v e.width (polynomial I s g % modulus v) h (number_below I s v g)

    by_test : (e.number < modulus v) ⊎ (modulus v ≤ e.number) → Means I s (bounded_conversion e v g) e
    by_test (inl l) =
        let test : nat_lt e.number (modulus v) ≡ true = grind (arith, nat_tests) in
        rw (test) (record { same = ap (λ n. nat_lt n e.number) (sym value); small = λ k. l })
    by_test (inr l) =
        let test : nat_lt e.number (modulus v) ≡ false = grind (arith, nat_tests) in
        let above = modulus_above_one e.width in
        let below = number_below I s v g in
        let always : nat_lt (polynomial I s g % modulus v) e.number ≡ true = grind (arith, nat_tests, below) in
        rw (test) (record { same = zero_below_one e.width ∙ sym (ap (λ n. nat_lt n e.number) value ∙ always); small = λ k. above })

bounded_cell_means : (I : Interpretation) (s : State) (e : BoundTree) (c : FlowFormTree) → polynomial I s e.form ≡ polynomial I s c → Means I s (bounded_cell e c) e
bounded_cell_means I s e (converted false v w g) q = by_test (is_widening v w e.width) facts
  where
    facts : is_widening v w e.width ≡ true → (w ≡ e.width) × (bits v < bits e.width)
    facts b =
        let both = and_parts (is_same_width w e.width) (is_narrower v w) b in
        let same = same_bits w e.width both.0 in
        let l : bits v < bits w = grind (arith, nat_tests, both.1) in
        (same, subst (λ u. bits v < bits u) same l)

    by_test : (b : Bool) → (b ≡ true → (w ≡ e.width) × (bits v < bits e.width)) → Means I s (if b then bounded_conversion e v g else e) e
    by_test true f =
        let value : polynomial I s e.form ≡ polynomial I s g % modulus v % modulus e.width =
        q ∙ ap (λ u. polynomial I s g % modulus v % modulus u) (f refl).0 in
        bounded_conversion_means I s e v g (f refl).1
        (ap (λ n. n % modulus e.width) value ∙ mod-eq_of_lt (mod_below (polynomial I s g % modulus v) (modulus e.width) (positive e.width)))
    by_test false f = itself I s e
bounded_cell_means I s e (converted true v w g) q = itself I s e
bounded_cell_means I s e c q = itself I s e

bounded_product_means : (I : Interpretation) (s : State) (e : BoundTree) (p : FlowFormTree) → polynomial I s e.form ≡ polynomial I s p → Means I s (bounded_product e p) e
bounded_product_means I s e (factor c rest) q = by_test (is_one rest) (no_cells rest)
  where
    by_test : (b : Bool) → (b ≡ true → rest ≡ one) → Means I s (if b then bounded_cell e c else e) e
    by_test true f = bounded_cell_means I s e c (q ∙ ap (λ r. polynomial I s c * polynomial I s r) (f refl) ∙ omega arith)
    by_test false f = itself I s e
bounded_product_means I s e p q = itself I s e

narrower_means : (I : Interpretation) (s : State) (w : Width) (f : FlowFormTree) (b : ℕ) → Means I s (narrower_bound w f b) (record { width = w; form = f; number = b })
narrower_means I s w (term t p rest) b = by_test (is_alone t rest) (product_alone t p rest)
  where
    by_test : (o : Bool) → (o ≡ true → term t p rest ≡ term 1 p (constant 0)) →
        Means I s (if o then bounded_product (record { width = w; form = term t p rest; number = b }) p else record { width = w; form = term t p rest; number = b })
        (record { width = w; form = term t p rest; number = b })
    by_test true f =
        bounded_product_means I s (record { width = w; form = term t p rest; number = b }) p
        (ap (polynomial I s) (f refl) ∙ omega arith)
    by_test false f = itself I s (record { width = w; form = term t p rest; number = b })
narrower_means I s w f b = itself I s (record { width = w; form = f; number = b })

-- x is below m - 1 exactly if the next number modulo m is not 0
next_test : (m x : ℕ) → 1 < m → x < m → not (nat_eq ((x + 1 % m) % m) 0) ≡ nat_lt x (m - 1)
next_test m x h k = by_cases (cases_lt x (m - 1))
  where
    single : 1 % m ≡ 1
    single = mod-eq_of_lt h

    by_cases : (x < m - 1) ⊎ (m - 1 ≤ x) → not (nat_eq ((x + 1 % m) % m) 0) ≡ nat_lt x (m - 1)
    by_cases (inl l) =
        let small : x + 1 < m = omega arith in
        let test : nat_lt x (m - 1) ≡ true = grind (arith, nat_tests) in
        let zero : nat_eq (x + 1) 0 ≡ false = grind (arith, nat_tests) in
        rw (single, mod-eq_of_lt small, test, zero) refl
    by_cases (inr l) =
        let whole : x + 1 ≡ m = omega arith in
        let test : nat_lt x (m - 1) ≡ false = grind (arith, nat_tests) in
        rw (single, whole, mod_self m, test) refl

holds-varying_bound : (I : Interpretation) (s : State) (w : Width) (f : FlowFormTree) (b : ℕ) → b < modulus w → literal_holds I s (varying_bound w f b) ≡ nat_lt (number_of I s w f) b
holds-varying_bound I s w f b h = by_cases (cases_eq b 0) (cases_eq b 1) (cases_eq b (modulus w - 1))
  where
    last_value : literal_holds I s (opposite (zero_literal w (form_sum (modulus w) f (constant 1)))) ≡ nat_lt (number_of I s w f) (modulus w - 1)
    last_value =
        holds-opposite I s (zero_literal w (form_sum (modulus w) f (constant 1)))
        ∙ ap not (holds-zero_literal I s w (form_sum (modulus w) f (constant 1))
        ∙ ap (λ n. nat_eq n 0) (value-form_sum I s (modulus w) f (constant 1)))
        ∙ next_test (modulus w) (number_of I s w f) (modulus_above_one w) (number_below I s w f)

    by_cases : (b ≡ 0) ⊎ (b ≡ 0 → ⊥) → (b ≡ 1) ⊎ (b ≡ 1 → ⊥) → (b ≡ modulus w - 1) ⊎ (b ≡ modulus w - 1 → ⊥) →
        literal_holds I s (varying_bound w f b) ≡ nat_lt (number_of I s w f) b
    by_cases (inl e) o p =
        let test : nat_eq b 0 ≡ true = grind (arith, nat_tests) in
        let none : nat_lt (number_of I s w f) b ≡ false = grind (arith, nat_tests) in
        rw (test, none) refl
    by_cases (inr n) (inl e) p =
        let test : nat_eq b 0 ≡ false = grind (arith, nat_tests) in
        let next : nat_eq b 1 ≡ true = grind (arith, nat_tests) in
        let value : nat_eq (number_of I s w f) 0 ≡ nat_lt (number_of I s w f) b = grind (arith, nat_tests) in
        rw (test, next) (holds-zero_literal I s w f ∙ value)
    by_cases (inr n) (inr k) (inl e) =
        let test : nat_eq b 0 ≡ false = grind (arith, nat_tests) in
        let next : nat_eq b 1 ≡ false = grind (arith, nat_tests) in
        let last : nat_eq b (modulus w - 1) ≡ true = grind (arith, nat_tests) in
        rw (test, next, last) (last_value ∙ ap (λ n. nat_lt (number_of I s w f) n) (sym e))
    by_cases (inr n) (inr k) (inr l) =
        let test : nat_eq b 0 ≡ false = grind (arith, nat_tests) in
        let next : nat_eq b 1 ≡ false = grind (arith, nat_tests) in
        let last : nat_eq b (modulus w - 1) ≡ false = grind (arith, nat_tests) in
        rw (test, next, last) (ap (λ n. nat_lt (number_of I s w f) n) (mod-eq_of_lt h))

holds-settled_bound : (I : Interpretation) (s : State) (w : Width) (f : FlowFormTree) (b : ℕ) → b < modulus w → literal_holds I s (settled_bound w f b) ≡ nat_lt (number_of I s w f) b
holds-settled_bound I s w (constant c) b h = refl
holds-settled_bound I s w f b h = holds-varying_bound I s w f b h

holds-below_number : (I : Interpretation) (s : State) (w : Width) (f : FlowFormTree) (b : ℕ) → b < modulus w → literal_holds I s (below_number w f b) ≡ nat_lt (number_of I s w f) b
holds-below_number I s w f b h =
    let first = narrower_bound w f b in
    let second = narrower_bound first.width first.form first.number in
    let third = narrower_bound second.width second.form second.number in
    let one_step = narrower_means I s w f b in
    let two_steps = narrower_means I s first.width first.form first.number in
    let three_steps = narrower_means I s second.width second.form second.number in
    holds-settled_bound I s third.width third.form third.number (three_steps.small (two_steps.small (one_step.small h)))
    ∙ three_steps.same ∙ two_steps.same ∙ one_step.same

-- not x < c + 1 is c < x
above_test : (c x : ℕ) → not (nat_lt x (c + 1)) ≡ nat_lt c x
above_test c x = grind (arith, nat_tests)

holds-above_number : (I : Interpretation) (s : State) (w : Width) (c : ℕ) (g : FlowFormTree) → c < modulus w → literal_holds I s (above_number w c g) ≡ nat_lt c (number_of I s w g)
holds-above_number I s w c g h = by_cases (cases_eq c (modulus w - 1))
  where
    by_cases : (c ≡ modulus w - 1) ⊎ (c ≡ modulus w - 1 → ⊥) → literal_holds I s (above_number w c g) ≡ nat_lt c (number_of I s w g)
    by_cases (inl e) =
        let below = number_below I s w g in
        let test : nat_eq c (modulus w - 1) ≡ true = grind (arith, nat_tests) in
        let none : nat_lt c (number_of I s w g) ≡ false = grind (arith, nat_tests, below) in
        rw (test) (sym none)
    by_cases (inr n) =
        let test : nat_eq c (modulus w - 1) ≡ false = grind (arith, nat_tests) in
        let small : c + 1 < modulus w = omega arith in
        rw (test) (holds-opposite I s (below_number w g (c + 1))
        ∙ ap not (holds-below_number I s w g (c + 1) small)
        ∙ above_test c (number_of I s w g))

own_test : (x : ℕ) → nat_lt x x ≡ false
own_test x = grind (arith, nat_tests)

holds-varying_less : (I : Interpretation) (s : State) (w : Width) (f g : FlowFormTree) → literal_holds I s (varying_less w f g) ≡ nat_lt (number_of I s w f) (number_of I s w g)
holds-varying_less I s w f g = by_test (is_eq (form_cmp f g)) (λ e. equal_forms f g (is_eq-true (form_cmp f g) e))
  where
    by_test : (b : Bool) → (b ≡ true → f ≡ g) → literal_holds I s (if b then decided false else holding (less_form w f g)) ≡ nat_lt (number_of I s w f) (number_of I s w g)
    by_test true e = sym (ap (λ h. nat_lt (number_of I s w h) (number_of I s w g)) (e refl) ∙ own_test (number_of I s w g))
    by_test false e = refl

holds-less_than : (I : Interpretation) (s : State) (w : Width) (f g : FlowFormTree) → literal_holds I s (less_than w f g) ≡ nat_lt (number_of I s w f) (number_of I s w g)
holds-less_than I s w f (constant d) = holds-below_number I s w f (d % modulus w) (mod_below d (modulus w) (positive w))
holds-less_than I s w f g = holds-varying_less I s w f g

pub holds-less_literal : (I : Interpretation) (s : State) (w : Width) (f g : FlowFormTree) → literal_holds I s (less_literal w f g) ≡ nat_lt (number_of I s w f) (number_of I s w g)
holds-less_literal I s w (constant c) g = holds-above_number I s w (c % modulus w) g (mod_below c (modulus w) (positive w))
holds-less_literal I s w f g = holds-less_than I s w f g

pub holds-same_literal : (I : Interpretation) (s : State) (f g : FlowFormTree) → literal_holds I s (same_literal f g) ≡ nat_eq (polynomial I s f) (polynomial I s g)
holds-same_literal I s f g = by_cases (form_cmp f g) (equal_forms f g)
  where
    own : (x : ℕ) → nat_eq x x ≡ true
    own x = grind (arith, nat_tests)

    converse : (x y : ℕ) → nat_eq x y ≡ nat_eq y x
    converse x y = grind (arith, nat_tests)

    by_cases : (o : Ordering) → (o ≡ Equal → f ≡ g) → literal_holds I s (by_order o (holding (same_form f g)) (decided true) (holding (same_form g f))) ≡ nat_eq (polynomial I s f) (polynomial I s g)
    by_cases Less e = refl
    by_cases Equal e = sym (ap (λ h. nat_eq (polynomial I s h) (polynomial I s g)) (e refl) ∙ own (polynomial I s g))
    by_cases Greater e = converse (polynomial I s g) (polynomial I s f)

pub holds-compared_numbers : (I : Interpretation) (s : State) (w : Width) (rel : Rel) (f g : FlowFormTree) → literal_holds I s (compared_numbers w rel f g) ≡ compares rel (number_of I s w f) (number_of I s w g)
holds-compared_numbers I s w Eq f g = holds-zero_literal I s w (form_difference (modulus w) f g) ∙ difference_test I s w f g
holds-compared_numbers I s w Ne f g =
    holds-opposite I s (zero_literal w (form_difference (modulus w) f g))
    ∙ ap not (holds-zero_literal I s w (form_difference (modulus w) f g) ∙ difference_test I s w f g)
holds-compared_numbers I s w Lt f g = holds-less_literal I s w f g
holds-compared_numbers I s w Gt f g = holds-less_literal I s w g f
holds-compared_numbers I s w Ge f g = holds-opposite I s (less_literal w f g) ∙ ap not (holds-less_literal I s w f g)
holds-compared_numbers I s w Le f g = holds-opposite I s (less_literal w g f) ∙ ap not (holds-less_literal I s w g f)

half_small : (w : Width) → 2 ^ (bits w - 1) % modulus w ≡ 2 ^ (bits w - 1)
half_small W8 = refl
half_small W16 = refl
half_small W32 = refl
half_small W64 = refl

value-biased_form : (I : Interpretation) (s : State) (w : Width) (f : FlowFormTree) → number_of I s w (biased_form w f) ≡ biased w (number_of I s w f)
value-biased_form I s w f =
    value-form_sum I s (modulus w) f (constant (2 ^ (bits w - 1)))
    ∙ ap (λ n. (number_of I s w f + n) % modulus w) (half_small w)

pub holds-compared_signed : (I : Interpretation) (s : State) (w : Width) (rel : Rel) (f g : FlowFormTree) → literal_holds I s (compared_signed w rel f g) ≡ compares rel (biased w (number_of I s w f)) (biased w (number_of I s w g))
holds-compared_signed I s w rel f g =
    holds-compared_numbers I s w rel (biased_form w f) (biased_form w g)
    ∙ ap (λ n. compares rel n (number_of I s w (biased_form w g))) (value-biased_form I s w f)
    ∙ ap (λ n. compares rel (biased w (number_of I s w f)) n) (value-biased_form I s w g)
