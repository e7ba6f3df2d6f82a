-- Numerals and words are read as they were written, and written as they were read.
use Rattle.std.proofs.Common.{◌≡◌, ℕ, ◌^◌, ◌<◌, ◌≤◌, inl, inr, ⊎_elim, List, [], ◌∷◌, ◌++◌, map, Bool, true, false, cond, ◌==◌, nat_lt, Some, None, refl, sym, ap, ◌∙◌, subst, arith}
use mathlib.Core.Path.{ap₂}
use Rattle.std.specs.List.{list_all, list_any}
use Rattle.std.specs.Char.{is_ascii_digit}
use Rattle.std.specs.Fmt.{decimal}
use Rattle.std.proofs.lemmas.Bool.{or_parts, and_parts}
use Rattle.std.proofs.lemmas.Bool.Decides.{nat_tests}
use Rattle.std.proofs.lemmas.Fmt.{digits_decimal}
use Rattle.std.proofs.lemmas.List.Splits.{join_with_byte-slice_split}
use Rattle.kat_model.specs.Members.{Has}
use Rattle.line_format.specs.Lines.{words_of, line_of}
use Rattle.line_format.specs.Numerals.{is_numeral, value_of, numbers_of, too_wide}
use Rattle.line_format.proofs.Splits.{LacksByte, split_lacking, split_at}
use Rattle.line_format.proofs.NumeralValues.{own, numeral_decimal, decimal_numeral}

-- ---- numbers of the program

abbrev pub AreNarrow : List ℕ → Type 0
AreNarrow ks = (k : ℕ) → Has ks k → k < 2 ^ 64

pub narrow_number : (k : ℕ) → too_wide k ≡ false → k < 2 ^ 64
narrow_number k e = grind (arith, nat_tests)

pub number_narrow : (k : ℕ) → k < 2 ^ 64 → too_wide k ≡ false
number_narrow k small = grind (arith, nat_tests)

pub are_narrow : (ks : List ℕ) → list_any too_wide ks ≡ false → AreNarrow ks
are_narrow [] e k h = absurd h
are_narrow (l ∷ ks) e k h =
    let parts = or_parts (too_wide l) (list_any too_wide ks) e in
    ⊎_elim (λ p. subst (λ m. m < 2 ^ 64) p (narrow_number l parts.0)) (are_narrow ks parts.1 k) h

pub none_wide : (ks : List ℕ) → AreNarrow ks → list_any too_wide ks ≡ false
none_wide [] narrow = refl
none_wide (k ∷ ks) narrow = rw (number_narrow k (narrow k (inl refl)), none_wide ks (λ l h. narrow l (inr h))) refl

-- ---- numerals

all_numerals : (ks : List ℕ) → AreNarrow ks → list_all is_numeral (map decimal ks) ≡ true
all_numerals [] narrow = refl
all_numerals (k ∷ ks) narrow = rw ((decimal_numeral k (narrow k (inl refl))).0, all_numerals ks (λ l h. narrow l (inr h))) refl

values_back : (ks : List ℕ) → AreNarrow ks → map value_of (map decimal ks) ≡ ks
values_back [] narrow = refl
values_back (k ∷ ks) narrow = ap₂ (λ x l. x ∷ l) (decimal_numeral k (narrow k (inl refl))).1 (values_back ks (λ l h. narrow l (inr h)))

-- words that are numerals spell their values
pub numbers_of_all : (ws : List (List ℕ)) → list_all is_numeral ws ≡ true → numbers_of ws ≡ Some (map value_of ws)
numbers_of_all ws e = rw e refl

pub numbers_of_none : (ws : List (List ℕ)) → list_all is_numeral ws ≡ false → numbers_of ws ≡ None
numbers_of_none ws e = rw e refl

pub numbers_back : (ks : List ℕ) → AreNarrow ks → numbers_of (map decimal ks) ≡ Some ks
numbers_back ks narrow = rw (all_numerals ks narrow) (ap (λ (l : List ℕ). Some l) (values_back ks narrow))

numerals_back : (ws : List (List ℕ)) → list_all is_numeral ws ≡ true → AreNarrow (map value_of ws) → ws ≡ map decimal (map value_of ws)
numerals_back [] all narrow = refl
numerals_back (w ∷ ws) all narrow =
    let parts = and_parts (is_numeral w) (list_all is_numeral ws) all in
    ap₂ (λ x l. x ∷ l) (sym (numeral_decimal w parts.0 (narrow (value_of w) (inl refl)))) (numerals_back ws parts.1 (λ l h. narrow l (inr h)))

pub numbers_given : (ws : List (List ℕ)) (ks : List ℕ) → numbers_of ws ≡ Some ks → AreNarrow ks → ws ≡ map decimal ks
numbers_given ws ks e narrow = by_test (list_all is_numeral ws) refl e
  where
    by_test : (b : Bool) → list_all is_numeral ws ≡ b → cond b (Some (map value_of ws)) None ≡ Some ks → ws ≡ map decimal ks
    by_test true all e =
        let same : map value_of ws ≡ ks = cc in
        numerals_back ws all (subst AreNarrow (sym same) narrow) ∙ ap (map decimal) same
    by_test false all e = cc

-- ---- words: bytes above the blank

abbrev pub IsWord : List ℕ → Type 0
IsWord w = list_all (λ b. nat_lt 32 b) w ≡ true

abbrev pub AreWords : List (List ℕ) → Type 0
AreWords [] = Unit {0}
AreWords (w ∷ ws) = IsWord w × AreWords ws

not_low : (mark b : ℕ) → mark ≤ 32 → nat_lt 32 b ≡ true → (b == mark) ≡ false
not_low mark b low e = grind (arith, nat_tests)

pub word_lacks : (mark : ℕ) (w : List ℕ) → mark ≤ 32 → IsWord w → LacksByte mark w
word_lacks mark [] low word = refl
word_lacks mark (b ∷ w) low word =
    let parts = and_parts (nat_lt 32 b) (list_all (λ c. nat_lt 32 c) w) word in
    rw (not_low mark b low parts.0, word_lacks mark w low parts.1) refl

digit_high : (b : ℕ) → is_ascii_digit b ≡ true → nat_lt 32 b ≡ true
digit_high b e = grind (arith, nat_tests)

digits_word : (w : List ℕ) → list_all is_ascii_digit w ≡ true → IsWord w
digits_word [] e = refl
digits_word (b ∷ w) e =
    let parts = and_parts (is_ascii_digit b) (list_all is_ascii_digit w) e in
    rw (digit_high b parts.0, digits_word w parts.1) refl

pub decimals_words : (ks : List ℕ) → AreNarrow ks → AreWords (map decimal ks)
decimals_words [] narrow = tt
decimals_words (k ∷ ks) narrow = (digits_word (decimal k) (digits_decimal own k (narrow k (inl refl))), decimals_words ks (λ l h. narrow l (inr h)))

pub words_append : (vs ws : List (List ℕ)) → AreWords vs → AreWords ws → AreWords (vs ++ ws)
words_append [] ws a b = b
words_append (v ∷ vs) ws a b = (a.0, words_append vs ws a.1 b)

-- words of a line, of which there is at least one
abbrev pub AreLineWords : List (List ℕ) → Type 0
AreLineWords [] = ⊥
AreLineWords (w ∷ ws) = AreWords (w ∷ ws)

-- a line built from words has these words
pub words_back : (ws : List (List ℕ)) → AreLineWords ws → words_of (line_of ws) ≡ ws
words_back [] words = absurd words
words_back (w ∷ []) words = split_lacking 32 w (word_lacks 32 w (omega arith) words.0)
words_back (w ∷ v ∷ ws) words =
    split_at 32 w (line_of (v ∷ ws)) (word_lacks 32 w (omega arith) words.0) ∙ ap (λ l. w ∷ l) (words_back (v ∷ ws) words.1)

-- a line is the line built from its words
pub line_back : (line : List ℕ) → line_of (words_of line) ≡ line
line_back line = join_with_byte-slice_split 32 line

pub lacks_append : (mark : ℕ) (xs ys : List ℕ) → LacksByte mark xs → LacksByte mark ys → LacksByte mark (xs ++ ys)
lacks_append mark [] ys a b = b
lacks_append mark (x ∷ xs) ys a b =
    let parts = or_parts (x == mark) (list_any (λ c. c == mark) xs) a in
    rw (parts.0, lacks_append mark xs ys parts.1 b) refl

-- a line of words has no line feed
pub line_lacks : (ws : List (List ℕ)) → AreLineWords ws → LacksByte 10 (line_of ws)
line_lacks [] words = absurd words
line_lacks (w ∷ []) words = word_lacks 10 w (omega arith) words.0
line_lacks (w ∷ v ∷ ws) words = lacks_append 10 w (32 ∷ line_of (v ∷ ws)) (word_lacks 10 w (omega arith) words.0) (line_lacks (v ∷ ws) words.1)
