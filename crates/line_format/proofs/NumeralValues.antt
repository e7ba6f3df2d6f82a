-- Numerals and their values.
use Rattle.std.proofs.Common.{◌≡◌, ◌<◌, ◌≤◌, ◌^◌, ℕ, zero, suc, List, length, true, ◌&&◌, ◌||◌, ◌==◌, not, nat_lt, ltb-true, Result, refl, subst, arith, rules, get_or, lit<}
use Rattle.std.proofs.lemmas.Bool.{and_parts}
use Rattle.std.specs.Char.{is_ascii_digit}
use Rattle.std.specs.List.{list_all}
use Rattle.std.specs.Fmt.{decimal}
use Rattle.std.specs.Str.{IsUtf8}
use Rattle.std.specs.Str.Parse.{ParsesUnsigned}
use Rattle.std.specs.Result.{OkIff}
use Rattle.std.proofs.lemmas.Fmt.{IsAscii-from_digits, decimal-digits_value, digits_decimal, digits_value-decimal, decimal_nonempty, first_decimal, decimal_digit}
use Rattle.std.specs.Cmp.Derive.{both_true}
use Rattle.std.proofs.lemmas.Str.{IsUtf8-from_ascii}
use Rattle.std.proofs.lemmas.Str.Parse.{IsNumeralModel, numerals_by_fold, parse_digits}
use Rattle.std.proofs.lemmas.Bool.Decides.{nat_tests}
use Rattle.line_format.specs.Numerals.{value_from, is_numeral, value_of}

pub own : IsNumeralModel (λ ds. list_all is_ascii_digit ds ≡ true) value_of
own = numerals_by_fold _ (search rules) value_from (search rules)

-- a numeral consists of digits, with no leading zero
pub numeral_digits : (ds : List ℕ) → is_numeral ds ≡ true → (list_all is_ascii_digit ds ≡ true) × (0 < length ds) × (get_or ds 0 0 ≡ 48 → length ds ≡ 1)
numeral_digits ds e =
    let parts = and_parts (nat_lt 0 (length ds)) ((not (get_or ds 0 0 == 48) || (length ds == 1)) && list_all is_ascii_digit ds) e in
    let inner = and_parts (not (get_or ds 0 0 == 48) || (length ds == 1)) (list_all is_ascii_digit ds) parts.1 in
    (inner.1, ltb-true 0 (length ds) parts.0, alone (get_or ds 0 0) (length ds) inner.0)
  where
    alone : (c n : ℕ) → (not (c == 48) || (n == 1)) ≡ true → c ≡ 48 → n ≡ 1
    alone c n either same = grind (arith, nat_tests)

-- and it is the decimal notation of its value
pub numeral_decimal : (ds : List ℕ) → is_numeral ds ≡ true → value_of ds < 2 ^ 64 → decimal (value_of ds) ≡ ds
numeral_decimal ds e small = let parts = numeral_digits ds e in decimal-digits_value own ds parts.0 parts.1 parts.2 small

numeral_from : (ds : List ℕ) → list_all is_ascii_digit ds ≡ true → 0 < length ds → (get_or ds 0 0 ≡ 48 → length ds ≡ 1) → is_numeral ds ≡ true
numeral_from ds all some first = both_true (some_ltb (length ds) some) (both_true (starts (get_or ds 0 0) (length ds) first) all)
  where
    some_ltb : (n : ℕ) → 0 < n → nat_lt 0 n ≡ true
    some_ltb n some = grind (arith, nat_tests)

    starts : (c n : ℕ) → (c ≡ 48 → n ≡ 1) → (not (c == 48) || (n == 1)) ≡ true
    starts c n alone = grind (arith, nat_tests)

starts_small : (n : ℕ) → n < 2 ^ 64 → get_or (decimal n) 0 0 ≡ 48 → length (decimal n) ≡ 1
starts_small zero small e = simp (decimal_digit 0 (lit< tt)) refl
starts_small (suc n) small e = absurd (omega (arith, e, first_decimal (suc n) (omega arith) small))

-- the decimal notation of a number is a numeral with this value
pub decimal_numeral : (n : ℕ) → n < 2 ^ 64 → (is_numeral (decimal n) ≡ true) × (value_of (decimal n) ≡ n)
decimal_numeral n small = (numeral_from (decimal n) (digits_decimal own n small) (decimal_nonempty n small) (starts_small n small), digits_value-decimal own n small)

pub wide_from : (len v : ℕ) → 0 < len → ((0 < len) × (v < 2 ^ 64) → ⊥) → 2 ^ 64 ≤ v
wide_from len v some no_fit = grind arith

pub numeral_utf8 : (ds : List ℕ) → is_numeral ds ≡ true → IsUtf8 ds
numeral_utf8 ds e = IsUtf8-from_ascii ds (IsAscii-from_digits ds (own.to ds (numeral_digits ds e).0))

-- `parse` of a numeral returns its value, if that is below 2^64
pub numeral_parse : {E : Type 0} (word text : List ℕ) (r : Result ℕ E) → text ≡ word → is_numeral word ≡ true → ParsesUnsigned 64 10 text r → OkIff r ((0 < length word) × (value_of word < 2 ^ 64)) (value_of word)
numeral_parse word text r same e parsed = parse_digits own 64 word r (subst (λ t. ParsesUnsigned 64 10 t r) same parsed) (numeral_digits word e).0
