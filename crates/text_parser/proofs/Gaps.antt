-- Separators and comments end between characters.
use Rattle.std.proofs.Common.{◌≡◌, ◌≤◌, ◌<◌, ◌+◌, ℕ, List, [], ◌∷◌, ◌++◌, length, drop, Bool, true, false, not, nat_lt, refl, sym, ap, ◌∙◌, arith, subst, get_or, ◌==◌, append-nil, zero, suc, if◌then◌else◌, lit<}
use Rattle.std.proofs.lemmas.Bool.{and_parts, ltb-true, ltb-false}
use Rattle.std.specs.Prelude.{encode_utf8, encode_utf8_all}
use Rattle.std.specs.Str.{IsUtf8, IsCharBoundary}
use Rattle.std.proofs.lemmas.Str.{encode_ascii, inside_one, IsUtf8-nil, IsCharBoundary-from_drop}
use Rattle.std.proofs.lemmas.Bool.Decides.{nat_tests}
use lib.Utf8.{scalars}
use Rattle.text_parser.specs.Kinds.{is_separator}
use Rattle.text_parser.specs.Lex.{gap_len}
use Rattle.text_parser.proofs.Beginnings.{char_some}

-- ---- the length of a gap

one_more : (n : ℕ) (b : ℕ) (bs : List ℕ) → drop (1 + n) (b ∷ bs) ≡ drop n bs
one_more n b bs = grind arith

pub gap_within : (c : Bool) (bytes : List ℕ) → gap_len c bytes ≤ length bytes
gap_within c [] = omega arith
gap_within true (b ∷ bs) = omega (arith, gap_within (not (b == 10)) bs)
gap_within false (b ∷ bs) = step (b == 35) (is_separator b) (gap_len true bs) (gap_len false bs) (length bs) (gap_within true bs) (gap_within false bs)
  where
    step : (s t : Bool) (x y n : ℕ) → x ≤ n → y ≤ n → (if s then 1 + x else (if t then 1 + y else 0)) ≤ suc n
    step true t x y n p q = omega (arith, p)
    step false true x y n p q = omega (arith, q)
    step false false x y n p q = omega arith

-- ---- the end of a gap

-- every byte is 128 or more
abbrev AllHigh : List ℕ → Type 0
AllHigh [] = Unit {0}
AllHigh (b ∷ bs) = (128 ≤ b) × AllHigh bs

all_high : (bs : List ℕ) → ((k : ℕ) → k < length bs → 128 ≤ get_or bs k 0) → AllHigh bs
all_high [] h = tt
all_high (b ∷ bs) h = (h zero (omega arith), all_high bs (λ k below. h (suc k) (omega (arith, below))))

by_cases : (x c : ℕ) → 128 ≤ c → (x < 128 → c ≡ x) → 128 ≤ x
by_cases x c high small = grind arith

pub char_high : (c : ℕ) → 128 ≤ c → AllHigh (encode_utf8 c)
char_high c high = all_high (encode_utf8 c) (λ k below.
    let small : get_or (encode_utf8 c) k 0 < 128 → c ≡ get_or (encode_utf8 c) k 0 = inside_one c [] (encode_utf8 c) k (sym (append-nil (encode_utf8 c))) below in
    by_cases (get_or (encode_utf8 c) k 0) c high small)

high_not : (b v : ℕ) → v < 128 → 128 ≤ b → (b == v) ≡ false
high_not b v small high = grind (arith, nat_tests)

high_no_separator : (b : ℕ) → 128 ≤ b → is_separator b ≡ false
high_no_separator b high = grind (arith, nat_tests)

-- the bytes after a gap
abbrev pub after_gap : Bool → List ℕ → List ℕ
after_gap c bytes = drop (gap_len c bytes) bytes

-- bytes of 128 or more do not end a comment
comment_high : (bs rest : List ℕ) → AllHigh bs → after_gap true (bs ++ rest) ≡ after_gap true rest
comment_high [] rest high = refl
comment_high (b ∷ bs) rest high =
    let goes : gap_len true ((b ∷ bs) ++ rest) ≡ 1 + gap_len true (bs ++ rest) = ap (λ t. 1 + gap_len (not t) (bs ++ rest)) (high_not b 10 (lit< tt) high.0) in
    ap (λ n. drop n ((b ∷ bs) ++ rest)) goes ∙ one_more (gap_len true (bs ++ rest)) b (bs ++ rest) ∙ comment_high bs rest high.1

no_gap : (s t : Bool) (x y : ℕ) → s ≡ false → t ≡ false → (if s then x else (if t then y else 0)) ≡ 0
no_gap false false x y e f = refl
no_gap false true x y e f = cc
no_gap true t x y e f = cc

-- a byte that is neither `#` nor a separator does not begin a gap
pub no_gap_at : (b : ℕ) (bs : List ℕ) → (b == 35) ≡ false → is_separator b ≡ false → gap_len false (b ∷ bs) ≡ 0
no_gap_at b bs = no_gap (b == 35) (is_separator b) (1 + gap_len true bs) (1 + gap_len false bs)

-- a byte of 128 or more does not begin a gap
pub no_gap_high : (bs rest : List ℕ) → 0 < length bs → AllHigh bs → gap_len false (bs ++ rest) ≡ 0
no_gap_high [] rest some high = absurd (omega (arith, some))
no_gap_high (b ∷ bs) rest some high = no_gap_at b (bs ++ rest) (high_not b 35 (lit< tt) high.0) (high_no_separator b high.0)

-- cases of the first byte
gap_step : (b : ℕ) (bs : List ℕ) (c : Bool) → IsUtf8 (b ∷ bs) → ((n : Bool) → IsUtf8 (after_gap n bs)) → IsUtf8 (after_gap c (b ∷ bs))
gap_step b bs true whole more = subst IsUtf8 (sym (one_more (gap_len (not (b == 10)) bs) b bs)) (more (not (b == 10)))
gap_step b bs false whole more = step (b == 35) (is_separator b)
  where
    step : (s t : Bool) → IsUtf8 (drop (if s then 1 + gap_len true bs else (if t then 1 + gap_len false bs else 0)) (b ∷ bs))
    step true t = subst IsUtf8 (sym (one_more (gap_len true bs) b bs)) (more true)
    step false true = subst IsUtf8 (sym (one_more (gap_len false bs) b bs)) (more false)
    step false false = whole

-- cases of the first character
char_step : (c : ℕ) (cs : List ℕ) (m t : Bool) → nat_lt c 128 ≡ t → scalars (c ∷ cs) ≡ true → ((n : Bool) → IsUtf8 (after_gap n (encode_utf8_all cs))) → IsUtf8 (after_gap m (encode_utf8 c ++ encode_utf8_all cs))
char_step c cs m true e valid more =
    let byte = encode_ascii c (ltb-true c 128 e) in
    let whole : IsUtf8 (c ∷ encode_utf8_all cs) = subst (λ l. IsUtf8 (l ++ encode_utf8_all cs)) byte (c ∷ cs, (valid, refl)) in
    subst (λ l. IsUtf8 (after_gap m (l ++ encode_utf8_all cs))) (sym byte) (gap_step c (encode_utf8_all cs) m whole more)
char_step c cs true false e valid more =
    subst IsUtf8 (sym (comment_high (encode_utf8 c) (encode_utf8_all cs) (char_high c (ltb-false c 128 e)))) (more true)
char_step c cs false false e valid more =
    let none : gap_len false (encode_utf8 c ++ encode_utf8_all cs) ≡ 0 = no_gap_high (encode_utf8 c) (encode_utf8_all cs) (char_some c) (char_high c (ltb-false c 128 e)) in
    subst (λ n. IsUtf8 (drop n (encode_utf8 c ++ encode_utf8_all cs))) (sym none) (c ∷ cs, (valid, refl))

gap_utf8 : (cs : List ℕ) (m : Bool) → scalars cs ≡ true → IsUtf8 (after_gap m (encode_utf8_all cs))
gap_utf8 [] m valid = IsUtf8-nil
gap_utf8 (c ∷ cs) m valid = char_step c cs m (nat_lt c 128) refl valid (λ n. gap_utf8 cs n (and_parts _ _ valid).1)

-- a text may be cut where a gap ends
pub gap_cut : (text : List ℕ) → IsUtf8 text → IsCharBoundary text (gap_len false text)
gap_cut text (cs, (valid, spelled)) =
    IsCharBoundary-from_drop text (gap_len false text) (gap_within false text) (subst (λ l. IsUtf8 (after_gap false l)) spelled (gap_utf8 cs false valid))
