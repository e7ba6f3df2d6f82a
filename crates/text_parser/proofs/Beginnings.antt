-- The first byte or character of a token.
use Rattle.std.proofs.Common.{◌≡◌, ◌⊎◌, ◌<◌, ℕ, List, [], ◌∷◌, ◌++◌, length, Bool, true, false, not, ◌&&◌, ◌||◌, ◌==◌, refl, sym, subst, inl, inr, arith, nat_lt, lit<}
use Rattle.std.proofs.lemmas.Bool.{and_parts, eqb-true}
use Rattle.std.proofs.lemmas.Bool.Decides.{nat_tests}
use Rattle.std.proofs.lemmas.Str.{encodes-chars, IsUtf8-from_is_utf8, is_utf8-from_IsUtf8, length-encode, len_utf8_bounds}
use Rattle.std.specs.Cmp.Derive.{both_true}
use Rattle.std.specs.Cmp.Lexicographic.{same_text}
use Rattle.std.specs.Prelude.{encode_utf8, encode_utf8_all, bytes_eq}
use Rattle.std.specs.List.{list_any, list_all}
use Rattle.std.specs.Char.{is_ascii_digit, is_ascii_alphabetic}
use Rattle.std.specs.Str.{IsUtf8, chars}
use Rattle.unicode_ident.specs.Ident.{is_xid_continue}
use Rattle.unicode_ident.proofs.IdentLemmas.{is_xid_start-ascii, is_xid_continue-ascii, is_xid_start-is_xid_continue}
use Rattle.text_parser.specs.declared.token.Kind.TheVariants.{Name, Number, Symbol}
use Rattle.text_parser.specs.Kinds.{is_name, begins_name, symbols, is_separator, IsToken}

either : (a b : Bool) → (a || b) ≡ true → (a ≡ true) ⊎ (b ≡ true)
either true b e = inl refl
either false b e = inr e

-- a text of a list passes if all texts of the list pass
pub passes_all : (q : List ℕ → Bool) (bytes : List ℕ) (xs : List (List ℕ)) → list_any (bytes_eq bytes) xs ≡ true → list_all q xs ≡ true → q bytes ≡ true
passes_all q bytes [] any all = cc
passes_all q bytes (x ∷ xs) any all =
    let parts = and_parts (q x) (list_all q xs) all in
    elim (either (bytes_eq bytes x) (list_any (bytes_eq bytes) xs) any) [
      | inl same ↦ subst (λ v. q v ≡ true) (sym (same_text bytes x (sym same))) parts.0
      | inr more ↦ passes_all q bytes xs more parts.1
    ]

-- ---- symbols

-- an ASCII byte that is not a letter, a digit, an underscore, a separator or `#`
abbrev pub is_mark : ℕ → Bool
is_mark a = nat_lt a 128 && (not (is_ascii_alphabetic a) && (not (is_ascii_digit a) && (not (a == 95) && (not (is_separator a) && not (a == 35)))))

-- one or two marks
abbrev pub is_marks : List ℕ → Bool
is_marks [] = false
is_marks (a ∷ []) = is_mark a
is_marks (a ∷ b ∷ []) = is_mark a && is_mark b
is_marks (a ∷ b ∷ c ∷ more) = false

pub symbol_marks : (bytes : List ℕ) → IsToken Symbol bytes → is_marks bytes ≡ true
symbol_marks bytes symbol = passes_all is_marks bytes symbols symbol refl

marks_begin : (bytes : List ℕ) → is_marks bytes ≡ true → (a : ℕ) × (more : List ℕ) × (bytes ≡ a ∷ more) × (is_mark a ≡ true)
marks_begin [] e = cc
marks_begin (a ∷ []) e = (a, [], refl, e)
marks_begin (a ∷ b ∷ []) e = (a, b ∷ [], refl, (and_parts (is_mark a) (is_mark b) e).0)
marks_begin (a ∷ b ∷ c ∷ more) e = cc

pub symbol_begins : (bytes : List ℕ) → IsToken Symbol bytes → (a : ℕ) × (more : List ℕ) × (bytes ≡ a ∷ more) × (is_mark a ≡ true)
symbol_begins bytes symbol = marks_begin bytes (symbol_marks bytes symbol)

-- ---- numbers

pub number_digits : (bytes : List ℕ) → IsToken Number bytes → list_all is_ascii_digit bytes ≡ true
number_digits [] e = cc
number_digits (b ∷ bs) e = e

pub digits_number : (bytes : List ℕ) → 0 < length bytes → list_all is_ascii_digit bytes ≡ true → IsToken Number bytes
digits_number [] some all = absurd (omega (arith, some))
digits_number (b ∷ bs) some all = all

pub number_begins : (bytes : List ℕ) → IsToken Number bytes → (a : ℕ) × (more : List ℕ) × (bytes ≡ a ∷ more) × (is_ascii_digit a ≡ true)
number_begins [] e = cc
number_begins (a ∷ more) e = (a, more, refl, (and_parts _ _ e).0)

-- ---- names

pub name_parts : (bytes : List ℕ) → IsToken Name bytes → IsUtf8 bytes × (is_name (chars bytes) ≡ true)
name_parts bytes name = let parts = and_parts _ _ name in (IsUtf8-from_is_utf8 bytes parts.0, parts.1)

pub name_from_parts : (bytes : List ℕ) → IsUtf8 bytes → is_name (chars bytes) ≡ true → IsToken Name bytes
name_from_parts bytes utf8 named = both_true (is_utf8-from_IsUtf8 bytes utf8) named

name_chars : (bytes cs : List ℕ) → encode_utf8_all cs ≡ bytes → is_name cs ≡ true → (c : ℕ) × (ds : List ℕ) × (bytes ≡ encode_utf8 c ++ encode_utf8_all ds) × (begins_name c ≡ true) × (list_all is_xid_continue ds ≡ true)
name_chars bytes [] e named = cc
name_chars bytes (c ∷ ds) e named = let parts = and_parts _ _ named in (c, ds, sym e, parts.0, parts.1)

pub name_begins : (bytes : List ℕ) → IsToken Name bytes → (c : ℕ) × (ds : List ℕ) × (bytes ≡ encode_utf8 c ++ encode_utf8_all ds) × (begins_name c ≡ true) × (list_all is_xid_continue ds ≡ true)
name_begins bytes name = let parts = name_parts bytes name in name_chars bytes (chars bytes) (encodes-chars bytes parts.0) parts.1

-- a character that begins a name also continues one
pub begins_continues : (c : ℕ) → begins_name c ≡ true → is_xid_continue c ≡ true
begins_continues c e = elim (either _ _ e) [
  | inl starts ↦ is_xid_start-is_xid_continue c starts
  | inr underscore ↦ let same : c ≡ 95 = eqb-true c 95 underscore in subst (λ v. is_xid_continue v ≡ true) (sym same) (is_xid_continue-ascii 95 (lit< tt))
]

-- ---- a byte begins tokens of only one kind

-- an ASCII character that begins a name is a letter or an underscore
pub begins_letter : (c : ℕ) → c < 128 → begins_name c ≡ true → (is_ascii_alphabetic c || (c == 95)) ≡ true
begins_letter c small e = subst (λ b. (b || (c == 95)) ≡ true) (is_xid_start-ascii c small) e

digit_or_mark_no_letter : (c : ℕ) → (is_ascii_alphabetic c || (c == 95)) ≡ true → (is_ascii_digit c ≡ true) ⊎ (is_mark c ≡ true) → ⊥
digit_or_mark_no_letter c letter (inl digit) = grind (arith, nat_tests)
digit_or_mark_no_letter c letter (inr token_parts) = grind (arith, nat_tests)

pub digit_small : (c : ℕ) → is_ascii_digit c ≡ true → c < 128
digit_small c e = grind (arith, nat_tests)

pub mark_small : (c : ℕ) → is_mark c ≡ true → c < 128
mark_small c e = grind (arith, nat_tests)

pub begins_no_digit : (c : ℕ) → begins_name c ≡ true → is_ascii_digit c ≡ true → ⊥
begins_no_digit c e digit = digit_or_mark_no_letter c (begins_letter c (digit_small c digit) e) (inl digit)

pub begins_no_mark : (c : ℕ) → begins_name c ≡ true → is_mark c ≡ true → ⊥
begins_no_mark c e token_parts = digit_or_mark_no_letter c (begins_letter c (mark_small c token_parts) e) (inr token_parts)

pub digit_no_mark : (c : ℕ) → is_ascii_digit c ≡ true → is_mark c ≡ true → ⊥
digit_no_mark c digit token_parts = grind (arith, nat_tests)

-- ---- a character has at least one byte

pub char_some : (c : ℕ) → 0 < length (encode_utf8 c)
char_some c = omega (arith, length-encode c, (len_utf8_bounds c).0)
