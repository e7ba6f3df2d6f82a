-- The conversion of a form has the conversion of its value.
use Rattle.std.proofs.Common.{◌≡◌, ℕ, ◌%◌, ◌<◌, ◌≤◌, Bool, true, false, not, ◌&&◌, ◌||◌, nat_eq, if◌then◌else◌, refl, sym, ◌∙◌, ap, subst, arith}
use Rattle.std.proofs.Math.Nat.{mod-mod}
use Rattle.std.proofs.lemmas.Bool.{and_parts}
use Rattle.std.proofs.lemmas.Bool.Decides.{nat_tests}
use Rattle.std.proofs.lemmas.Nat.{mod_below}
use Rattle.kat_model.specs.Stores.{bits, modulus}
use Rattle.kat_model.specs.declared.expression.Width.{Width}
use Rattle.kat_model.specs.declared.expression.Width.TheVariants.{W8, W16, W32, W64}
use Rattle.linear_forms.proofs.Modulo.{Cong, cong_add, cong_mul, cong_cut}
use Rattle.linear_forms.proofs.StoredValues.{modulus_above_one}
use Rattle.flow_model.specs.Sorts.{State}
use Rattle.flow_model.specs.Interpretations.{Interpretation, conversion}
use Rattle.flow_forms.specs.Forms.{FlowFormTree, constant, term, one, factor, converted, cell_form}
use Rattle.flow_forms.specs.Values.{polynomial}
use Rattle.flow_forms.specs.Arithmetic.{multiple}
use Rattle.flow_forms.specs.Conversions.{is_narrower, is_same_width, shortened, truncated, is_one, is_zero, is_alone, is_kept, widened_cell, widened_product, widened, sum_conversion, form_conversion}
use Rattle.flow_forms.proofs.Polynomials.{polynomial-cell_form, polynomial-form_sum, polynomial-multiple, polynomial-form_product}
use Rattle.flow_forms.proofs.Widths.{cut_twice, conversion_cut, conversion_below, conversion_drops, converted_again}

-- a cell that is converted without sign
cut_cell : (I : Interpretation) (s : State) (from to : Width) (c : FlowFormTree) → bits to ≤ bits from → Cong (modulus to) (polynomial I s (cell_form (converted false from to (cell_form c)))) (polynomial I s c)
cut_cell I s from to c h =
    ap (λ n. n % modulus to) (polynomial-cell_form I s (converted false from to (cell_form c)))
    ∙ ap (λ n. n % modulus from % modulus to % modulus to) (polynomial-cell_form I s c)
    ∙ mod-mod (polynomial I s c % modulus from) (modulus to)
    ∙ cut_twice to from (polynomial I s c) h

-- a conversion of `g` to a width `w`, modulo 2 to a width `to` of no more bits
shortened_value : (I : Interpretation) (s : State) (signed : Bool) (v w to : Width) (g short : FlowFormTree) → bits to ≤ bits w →
    (bits to ≤ bits v → Cong (modulus to) (polynomial I s short) (polynomial I s g)) →
    Cong (modulus to) (polynomial I s (shortened signed v to g short)) (conversion signed v w (polynomial I s g % modulus v))
shortened_value I s signed v w to g short h k = by_tests (is_narrower to v) (is_narrower v to) fewer more
  where
    fewer : is_narrower to v ≡ true → bits to ≤ bits v
    fewer e = grind (arith, nat_tests)

    more : is_narrower v to ≡ false → bits to ≤ bits v
    more e = grind (arith, nat_tests)

    dropped : bits to ≤ bits v → polynomial I s g % modulus to ≡ conversion signed v w (polynomial I s g % modulus v) % modulus to
    dropped l = sym (
        conversion_cut signed v w to (polynomial I s g % modulus v) h
        ∙ conversion_drops signed v to (polynomial I s g % modulus v) l
        ∙ cut_twice to v (polynomial I s g) l
        )

    by_tests : (a b : Bool) → (a ≡ true → bits to ≤ bits v) → (b ≡ false → bits to ≤ bits v) →
        Cong (modulus to) (polynomial I s (if a then short else if b then cell_form (converted signed v to g) else g)) (conversion signed v w (polynomial I s g % modulus v))
    by_tests true b p q = k (p refl) ∙ dropped (p refl)
    by_tests false true p q =
        ap (λ n. n % modulus to) (polynomial-cell_form I s (converted signed v to g))
        ∙ conversion_below signed v to (polynomial I s g % modulus v)
        ∙ sym (conversion_cut signed v w to (polynomial I s g % modulus v) h)
    by_tests false false p q = dropped (q refl)

pub same_bits : (v w : Width) → is_same_width v w ≡ true → v ≡ w
same_bits W8 W8 h = refl
same_bits W16 W16 h = refl
same_bits W32 W32 h = refl
same_bits W64 W64 h = refl
same_bits _ _ h = absurd cc

pub polynomial-truncated : (I : Interpretation) (s : State) (from to : Width) (f : FlowFormTree) → bits to ≤ bits from → Cong (modulus to) (polynomial I s (truncated from to f)) (polynomial I s f)
polynomial-truncated I s from to (constant c) h = cong_cut (modulus to) c
polynomial-truncated I s from to (term t p rest) h =
    polynomial-form_sum I s (modulus to) (multiple (modulus to) t (truncated from to p)) (truncated from to rest)
    ∙ cong_add (modulus to) _ _ _ _
    (polynomial-multiple I s (modulus to) t (truncated from to p)
    ∙ cong_mul (modulus to) t t _ _ refl (polynomial-truncated I s from to p h))
    (polynomial-truncated I s from to rest h)
polynomial-truncated I s from to one h = refl
polynomial-truncated I s from to (factor c rest) h =
    polynomial-form_product I s (modulus to) (truncated from to c) (truncated from to rest)
    ∙ cong_mul (modulus to) _ _ _ _ (polynomial-truncated I s from to c h) (polynomial-truncated I s from to rest h)
polynomial-truncated I s from to (converted signed v w g) h =
    by_width (is_same_width w from) (same_bits w from) (polynomial-truncated I s v to g)
  where
    by_width : (b : Bool) → (b ≡ true → w ≡ from) → (bits to ≤ bits v → Cong (modulus to) (polynomial I s (truncated v to g)) (polynomial I s g)) →
        Cong (modulus to) (polynomial I s (if b then shortened signed v to g (truncated v to g) else cell_form (converted false from to (cell_form (converted signed v w g)))))
        (polynomial I s (converted signed v w g))
    by_width true e k =
        shortened_value I s signed v w to g (truncated v to g) (subst (λ u. bits to ≤ bits u) (sym (e refl)) h) k
    by_width false e k = cut_cell I s from to (converted signed v w g) h
polynomial-truncated I s from to f h = cut_cell I s from to f h

pub no_cells : (p : FlowFormTree) → is_one p ≡ true → p ≡ one
no_cells one e = refl
no_cells _ e = absurd cc

pub zero_form : (f : FlowFormTree) → is_zero f ≡ true → f ≡ constant 0
zero_form (constant c) e = ap constant (let n : c ≡ 0 = grind (arith, nat_tests) in n)
zero_form _ e = absurd cc

pub product_alone : (t : ℕ) (p rest : FlowFormTree) → is_alone t rest ≡ true → term t p rest ≡ term 1 p (constant 0)
product_alone t p rest e =
    let both = and_parts (nat_eq t 1) (is_zero rest) e in
    let n : t ≡ 1 = grind (arith, nat_tests, both.0) in
    rw (n, zero_form rest both.1) refl

own_conversion : (I : Interpretation) (s : State) (signed : Bool) (from to : Width) (f : FlowFormTree) → polynomial I s (cell_form (converted signed from to f)) ≡ conversion signed from to (polynomial I s f % modulus from)
own_conversion I s signed from to f = polynomial-cell_form I s (converted signed from to f)

record Kept (signed : Bool) (from : Width) (inner : Bool) (v w : Width) : Type 0 where
  same : w ≡ from
  narrower : bits v < bits w
  sign : (signed || not inner) ≡ true

kept_facts : (signed : Bool) (from : Width) (inner : Bool) (v w : Width) → is_kept signed from inner v w ≡ true → Kept signed from inner v w
kept_facts signed from inner v w e =
    let outer = and_parts (is_same_width w from && is_narrower v w) (signed || not inner) e in
    let widths = and_parts (is_same_width w from) (is_narrower v w) outer.0 in
    record { same = same_bits w from widths.0; narrower = grind (arith, nat_tests, widths.1); sign = outer.1 }

polynomial-widened_cell : (I : Interpretation) (s : State) (signed : Bool) (from to : Width) (f c : FlowFormTree) → f ≡ cell_form c → polynomial I s (widened_cell signed from to f c) ≡ conversion signed from to (polynomial I s f % modulus from)
polynomial-widened_cell I s signed from to f (converted inner v w g) e =
    by_test (is_kept signed from inner v w) (kept_facts signed from inner v w)
  where
    cell_is : Kept signed from inner v w → polynomial I s f % modulus from ≡ conversion inner v from (polynomial I s g % modulus v)
    cell_is k =
        ap (λ h. polynomial I s h % modulus from) e
        ∙ ap (λ n. n % modulus from) (own_conversion I s inner v w g)
        ∙ conversion_cut inner v w from (polynomial I s g % modulus v) (subst (λ u. bits u ≤ bits w) k.same (omega arith))

    below : polynomial I s g % modulus v < modulus v
    below = let above = modulus_above_one v in mod_below (polynomial I s g) (modulus v) (omega (arith, above))

    by_test : (b : Bool) → (b ≡ true → Kept signed from inner v w) →
        polynomial I s (if b then cell_form (converted inner v to g) else cell_form (converted signed from to f)) ≡ conversion signed from to (polynomial I s f % modulus from)
    by_test true k =
        own_conversion I s inner v to g
        ∙ sym (ap (λ n. conversion signed from to n) (cell_is (k refl))
        ∙ converted_again signed inner v from to (polynomial I s g % modulus v) below (subst (λ u. bits v < bits u) (k refl).same (k refl).narrower) (k refl).sign)
    by_test false k = own_conversion I s signed from to f
polynomial-widened_cell I s signed from to f c e = own_conversion I s signed from to f

polynomial-widened_product : (I : Interpretation) (s : State) (signed : Bool) (from to : Width) (f p : FlowFormTree) → f ≡ term 1 p (constant 0) → polynomial I s (widened_product signed from to f p) ≡ conversion signed from to (polynomial I s f % modulus from)
polynomial-widened_product I s signed from to f (factor c rest) e = by_test (is_one rest) (no_cells rest)
  where
    by_test : (b : Bool) → (b ≡ true → rest ≡ one) →
        polynomial I s (if b then widened_cell signed from to f c else cell_form (converted signed from to f)) ≡ conversion signed from to (polynomial I s f % modulus from)
    by_test true h = polynomial-widened_cell I s signed from to f c (e ∙ ap (λ r. term 1 (factor c r) (constant 0)) (h refl))
    by_test false h = own_conversion I s signed from to f
polynomial-widened_product I s signed from to f p e = own_conversion I s signed from to f

polynomial-widened : (I : Interpretation) (s : State) (signed : Bool) (from to : Width) (f : FlowFormTree) → polynomial I s (widened signed from to f) ≡ conversion signed from to (polynomial I s f % modulus from)
polynomial-widened I s signed from to (term t p rest) = by_test (is_alone t rest) (product_alone t p rest)
  where
    by_test : (b : Bool) → (b ≡ true → term t p rest ≡ term 1 p (constant 0)) →
        polynomial I s (if b then widened_product signed from to (term t p rest) p else cell_form (converted signed from to (term t p rest))) ≡ conversion signed from to (polynomial I s (term t p rest) % modulus from)
    by_test true h = polynomial-widened_product I s signed from to (term t p rest) p (h refl)
    by_test false h = own_conversion I s signed from to (term t p rest)
polynomial-widened I s signed from to f = own_conversion I s signed from to f

value-sum_conversion : (I : Interpretation) (s : State) (signed : Bool) (from to : Width) (f : FlowFormTree) → polynomial I s (sum_conversion signed from to f) % modulus to ≡ conversion signed from to (polynomial I s f % modulus from)
value-sum_conversion I s signed from to f = by_tests (is_narrower to from) (is_narrower from to) fewer more
  where
    fewer : is_narrower to from ≡ true → bits to ≤ bits from
    fewer e = grind (arith, nat_tests)

    more : is_narrower from to ≡ false → bits to ≤ bits from
    more e = grind (arith, nat_tests)

    dropped : bits to ≤ bits from → polynomial I s f % modulus to ≡ conversion signed from to (polynomial I s f % modulus from)
    dropped l = sym (conversion_drops signed from to (polynomial I s f % modulus from) l ∙ cut_twice to from (polynomial I s f) l)

    by_tests : (a b : Bool) → (a ≡ true → bits to ≤ bits from) → (b ≡ false → bits to ≤ bits from) →
        polynomial I s (if a then truncated from to f else if b then widened signed from to f else f) % modulus to ≡ conversion signed from to (polynomial I s f % modulus from)
    by_tests true b p q = polynomial-truncated I s from to f (p refl) ∙ dropped (p refl)
    by_tests false true p q =
        ap (λ n. n % modulus to) (polynomial-widened I s signed from to f)
        ∙ conversion_below signed from to (polynomial I s f % modulus from)
    by_tests false false p q = dropped (q refl)

pub value-form_conversion : (I : Interpretation) (s : State) (signed : Bool) (from to : Width) (f : FlowFormTree) → polynomial I s (form_conversion signed from to f) % modulus to ≡ conversion signed from to (polynomial I s f % modulus from)
value-form_conversion I s signed from to (constant c) = conversion_below signed from to (c % modulus from)
value-form_conversion I s signed from to f = value-sum_conversion I s signed from to f
