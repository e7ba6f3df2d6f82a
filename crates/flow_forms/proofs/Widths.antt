-- Conversions of numbers from one width to another.
use Rattle.std.proofs.Common.{◌≡◌, ℕ, ◌+◌, ◌-◌, ◌*◌, ◌/◌, ◌%◌, ◌^◌, ◌<◌, ◌≤◌, Bool, true, false, not, ◌||◌, nat_lt, if◌then◌else◌, refl, ◌∙◌, ap, ◌⊎◌, inl, inr, arith}
use Rattle.std.proofs.Math.Nat.{mod-mod_of_dvd, dvd_of_mod-eq-zero, mod-eq_of_lt, add-mul-mod_self_left}
use Rattle.std.proofs.lemmas.Bool.{cases_lt}
use Rattle.std.proofs.lemmas.Bool.Decides.{nat_tests}
use Rattle.kat_model.specs.Stores.{bits, modulus}
use Rattle.kat_model.specs.declared.expression.Width.{Width}
use Rattle.kat_model.specs.declared.expression.Width.TheVariants.{W8, W16, W32, W64}
use Rattle.flow_model.specs.Interpretations.{is_negative, conversion}

divided : (v w : Width) → bits v ≤ bits w → modulus w % modulus v ≡ 0
divided W8 W8 h = refl
divided W8 W16 h = refl
divided W8 W32 h = refl
divided W8 W64 h = refl
divided W16 W16 h = refl
divided W16 W32 h = refl
divided W16 W64 h = refl
divided W32 W32 h = refl
divided W32 W64 h = refl
divided W64 W64 h = refl
divided _ _ h = absurd (omega (arith, h))

-- a number modulo 2 to a width, modulo 2 to one of fewer bits
pub cut_twice : (v w : Width) (x : ℕ) → bits v ≤ bits w → x % modulus w % modulus v ≡ x % modulus v
cut_twice v w x h = mod-mod_of_dvd (modulus v) {b = modulus w} x (dvd_of_mod-eq-zero (modulus v) (divided v w h))

-- a conversion, modulo 2 to a width of fewer bits, is one to this width
pub conversion_cut : (signed : Bool) (from w to : Width) (n : ℕ) → bits to ≤ bits w → conversion signed from w n % modulus to ≡ conversion signed from to n
conversion_cut false from w to n h = cut_twice to w n h
conversion_cut true from w to n h = cut_twice to w (if is_negative from n then n + (2 ^ 64 - modulus from) else n) h

pub conversion_below : (signed : Bool) (from to : Width) (n : ℕ) → conversion signed from to n % modulus to ≡ conversion signed from to n
conversion_below signed from to n = conversion_cut signed from to to n (omega arith)

moved : (v w : Width) → bits w ≤ bits v → 2 ^ 64 - modulus v ≡ modulus w * ((2 ^ 64 - modulus v) / modulus w)
moved W8 W8 h = refl
moved W16 W8 h = refl
moved W32 W8 h = refl
moved W64 W8 h = refl
moved W16 W16 h = refl
moved W32 W16 h = refl
moved W64 W16 h = refl
moved W32 W32 h = refl
moved W64 W32 h = refl
moved W64 W64 h = refl
moved _ _ h = absurd (omega (arith, h))

-- a conversion to no more bits drops the others
pub conversion_drops : (signed : Bool) (from to : Width) (n : ℕ) → bits to ≤ bits from → conversion signed from to n ≡ n % modulus to
conversion_drops false from to n h = refl
conversion_drops true from to n h = by_sign (is_negative from n)
  where
    by_sign : (b : Bool) → (if b then n + (2 ^ 64 - modulus from) else n) % modulus to ≡ n % modulus to
    by_sign true =
        ap (λ k. (n + k) % modulus to) (moved from to h)
        ∙ add-mul-mod_self_left n (modulus to) ((2 ^ 64 - modulus from) / modulus to)
    by_sign false = refl

widest : (w : Width) → bits w ≤ 64
widest W8 = omega arith
widest W16 = omega arith
widest W32 = omega arith
widest W64 = omega arith

-- the numbers of a width are not negative in one of more bits
half_above : (v w : Width) → bits v < bits w → modulus v ≤ 2 ^ (bits w - 1)
half_above W8 W16 h = omega arith
half_above W8 W32 h = omega arith
half_above W8 W64 h = omega arith
half_above W16 W32 h = omega arith
half_above W16 W64 h = omega arith
half_above W32 W64 h = omega arith
half_above _ w h = absurd (omega (arith, h, widest w))

modulus_above : (v w : Width) → bits v < bits w → modulus v < modulus w
modulus_above W8 W16 h = omega arith
modulus_above W8 W32 h = omega arith
modulus_above W8 W64 h = omega arith
modulus_above W16 W32 h = omega arith
modulus_above W16 W64 h = omega arith
modulus_above W32 W64 h = omega arith
modulus_above _ w h = absurd (omega (arith, h, widest w))

not_negative : (v w : Width) (n : ℕ) → bits v < bits w → n < modulus v → nat_lt n (2 ^ (bits w - 1)) ≡ true
not_negative v w n h k = let a = half_above v w h in grind (arith, nat_tests, a)

pub unchanged : (v w : Width) (n : ℕ) → bits v < bits w → n < modulus v → n % modulus w ≡ n
unchanged v w n h k = let a = modulus_above v w h in mod-eq_of_lt (omega (arith, a, k))

-- a negative number, with more bits
negative_cut : (v w : Width) (n : ℕ) → bits v < bits w → n < modulus v → (n + (2 ^ 64 - modulus v)) % modulus w ≡ n + (modulus w - modulus v)
negative_cut W8 W16 n h k = omega arith
negative_cut W8 W32 n h k = omega arith
negative_cut W8 W64 n h k = omega arith
negative_cut W16 W32 n h k = omega arith
negative_cut W16 W64 n h k = omega arith
negative_cut W32 W64 n h k = omega arith
negative_cut _ w n h k = absurd (omega (arith, h, widest w))

still_negative : (v w : Width) (n : ℕ) → bits v < bits w → 2 ^ (bits v - 1) ≤ n → 2 ^ (bits w - 1) ≤ n + (modulus w - modulus v)
still_negative W8 W16 n h k = omega arith
still_negative W8 W32 n h k = omega arith
still_negative W8 W64 n h k = omega arith
still_negative W16 W32 n h k = omega arith
still_negative W16 W64 n h k = omega arith
still_negative W32 W64 n h k = omega arith
still_negative _ w n h k = absurd (omega (arith, h, widest w))

negative_sum : (v w : Width) (n : ℕ) → bits v < bits w → (n + (modulus w - modulus v)) + (2 ^ 64 - modulus w) ≡ n + (2 ^ 64 - modulus v)
negative_sum W8 W16 n h = omega arith
negative_sum W8 W32 n h = omega arith
negative_sum W8 W64 n h = omega arith
negative_sum W16 W32 n h = omega arith
negative_sum W16 W64 n h = omega arith
negative_sum W32 W64 n h = omega arith
negative_sum _ w n h = absurd (omega (arith, h, widest w))

-- a number of a width of fewer bits is converted alike with and without sign
converted_positive : (signed : Bool) (v from to : Width) (n : ℕ) → bits v < bits from → n < modulus v → conversion signed from to (n % modulus from) ≡ n % modulus to
converted_positive false v from to n h k = rw (unchanged v from n h k) refl
converted_positive true v from to n h k = rw (unchanged v from n h k, not_negative v from n h k) refl

-- two conversions in a row, of which the first keeps all bits, are one
pub converted_again : (signed inner : Bool) (v from to : Width) (n : ℕ) → n < modulus v → bits v < bits from → (signed || not inner) ≡ true → conversion signed from to (conversion inner v from n) ≡ conversion inner v to n
converted_again signed false v from to n k h e = converted_positive signed v from to n h k
converted_again false true v from to n k h e = absurd cc
converted_again true true v from to n k h e = by_sign (cases_lt n (2 ^ (bits v - 1)))
  where
    by_sign : (n < 2 ^ (bits v - 1)) ⊎ (2 ^ (bits v - 1) ≤ n) → conversion true from to (conversion true v from n) ≡ conversion true v to n
    by_sign (inl l) =
        let p : nat_lt n (2 ^ (bits v - 1)) ≡ true = grind (arith, nat_tests) in
        rw (p) (converted_positive true v from to n h k)
    by_sign (inr l) =
        let p : nat_lt n (2 ^ (bits v - 1)) ≡ false = grind (arith, nat_tests) in
        let g = still_negative v from n h l in
        let q : nat_lt (n + (modulus from - modulus v)) (2 ^ (bits from - 1)) ≡ false = grind (arith, nat_tests, g) in
        rw (p, negative_cut v from n h k, q, negative_sum v from n h) refl
