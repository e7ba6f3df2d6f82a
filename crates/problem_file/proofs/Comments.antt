-- Bytes that may be a comment: concatenations, decimals, and names.
use Rattle.std.proofs.Common.{◌≡◌, ◌<◌, ◌≤◌, ◌/◌, ◌%◌, ℕ, zero, suc, List, [], ◌∷◌, ◌++◌, Bool, true, false, not, nat_lt, ◌&&◌, ◌||◌, ◌⊎◌, ◌==◌, cond, if◌then◌else◌, Option, Some, None, inl, inr, ⊎_elim, refl, sym, ap, subst, ◌∙◌, arith}
use Rattle.std.specs.Prelude.{codes, encode_utf8, encode_utf8_all}
use Rattle.std.specs.List.{list_all}
use Rattle.std.specs.Char.{is_ascii_alphanumeric}
use Rattle.std.specs.FinMap.{keys}
use Rattle.std.specs.Fmt.{digits_onto, digits, digit_glyph, decimal}
use Rattle.std.specs.Cmp.Derive.{both_true}
use Rattle.std.proofs.lemmas.Bool.{and_parts, cases_lt, ltb-true}
use Rattle.std.proofs.lemmas.Bool.Decides.{nat_tests}
use Rattle.std.proofs.lemmas.List.Folds.{list_all-append}
use Rattle.std.proofs.lemmas.Str.{encode_ascii, IsUtf8-append, IsUtf8-nil, IsUtf8-from_ascii}
use Rattle.std.proofs.lemmas.Str.Ascii.{IsAscii-cons}
use Rattle.unicode_ident.specs.Ident.{is_xid_continue}
use Rattle.unicode_ident.proofs.IdentLemmas.{is_xid_continue-ascii}
use Rattle.text_parser.specs.declared.token.Kind.TheVariants.{Name}
use Rattle.text_parser.specs.Kinds.{IsToken}
use Rattle.text_parser.proofs.Beginnings.{name_begins, begins_continues}
use Rattle.text_parser.proofs.Gaps.{char_high}
use Rattle.text_parser.proofs.Printed.{token_utf8}
use Rattle.text_parser.specs.declared.meaning.Meaning.{Meaning}
use Rattle.text_parser.specs.declared.meaning.Meaning.TheVariants.{Test, Action}
use Rattle.text_parser.specs.ScopeParts.{ScopeParts, meaning, Means, IsWellFormed}
use Rattle.text_parser.proofs.MeaningOrder.{same_meaning}
use Rattle.text_print.specs.Printing.{is_meant, first_name, name_of}
use Rattle.problem_file.specs.CommentedTexts.{IsComment}
use Rattle.problem_file.specs.Questions.{plain_name}

-- no byte is a line feed
abbrev pub IsLine : List ℕ → Type 0
IsLine bytes = list_all (λ b. not (b == 10)) bytes ≡ true

line_append : (xs ys : List ℕ) → IsLine xs → IsLine ys → IsLine (xs ++ ys)
line_append xs ys x y = list_all-append (λ b. not (b == 10)) xs ys ∙ both_true x y

pub comment_nil : IsComment []
comment_nil = (IsUtf8-nil, refl)

pub comment_append : (xs ys : List ℕ) → IsComment xs → IsComment ys → IsComment (xs ++ ys)
comment_append xs ys x y = (IsUtf8-append xs ys x.0 y.0, line_append xs ys x.1 y.1)

pub comment_chosen : (b : Bool) (xs ys : List ℕ) → IsComment xs → IsComment ys → IsComment (if b then xs else ys)
comment_chosen true xs ys x y = x
comment_chosen false xs ys x y = y

-- ---- ASCII bytes

-- an ASCII byte that is no line feed
abbrev pub is_shown : ℕ → Bool
is_shown b = nat_lt b 128 && not (b == 10)

pub shown_comment : (bytes : List ℕ) → list_all is_shown bytes ≡ true → IsComment bytes
shown_comment [] all = comment_nil
shown_comment (b ∷ bs) all =
    let parts = and_parts (is_shown b) (list_all is_shown bs) all in
    let byte = and_parts (nat_lt b 128) (not (b == 10)) parts.0 in
    comment_append (b ∷ []) bs (IsUtf8-from_ascii (b ∷ []) (IsAscii-cons b [] (ltb-true b 128 byte.0) (λ i. omega arith)), both_true byte.1 refl) (shown_comment bs parts.1)

glyph_shown : (d : ℕ) → d < 10 → is_shown (digit_glyph false d) ≡ true
glyph_shown d small = grind (arith, nat_tests)

chosen_shown : (b : Bool) (xs ys : List ℕ) → list_all is_shown xs ≡ true → list_all is_shown ys ≡ true → list_all is_shown (if b then xs else ys) ≡ true
chosen_shown true xs ys x y = x
chosen_shown false xs ys x y = y

onto_shown : (k n : ℕ) (acc : List ℕ) → list_all is_shown acc ≡ true → list_all is_shown (digits_onto k 10 false n acc) ≡ true
onto_shown zero n acc all = all
onto_shown (suc k) n acc all =
    let more : list_all is_shown (digit_glyph false (n % 10) ∷ acc) ≡ true = both_true (glyph_shown (n % 10) (omega arith)) all in
    chosen_shown (n / 10 == 0) (digit_glyph false (n % 10) ∷ acc) (digits_onto k 10 false (n / 10) (digit_glyph false (n % 10) ∷ acc)) more
    (onto_shown k (n / 10) (digit_glyph false (n % 10) ∷ acc) more)

decimal_shown : (n : ℕ) → list_all is_shown (decimal n) ≡ true
unfolding digits
decimal_shown n = onto_shown 64 n [] refl

pub comment_decimal : (n : ℕ) → IsComment (decimal n)
comment_decimal n = shown_comment (decimal n) (decimal_shown n)

-- ---- names

letter_line : (c : ℕ) → (is_ascii_alphanumeric c || (c == 95)) ≡ true → not (c == 10) ≡ true
letter_line c letter = grind (arith, nat_tests)

high_line : (b : ℕ) → 128 ≤ b → not (b == 10) ≡ true
high_line b high = grind (arith, nat_tests)

-- every byte is 128 or more
abbrev AllHigh : List ℕ → Type 0
AllHigh [] = Unit {0}
AllHigh (b ∷ bs) = (128 ≤ b) × AllHigh bs

all_high_line : (bs : List ℕ) → AllHigh bs → IsLine bs
all_high_line [] h = refl
all_high_line (b ∷ bs) h = both_true (high_line b h.0) (all_high_line bs h.1)

char_line : (c : ℕ) → is_xid_continue c ≡ true → IsLine (encode_utf8 c)
char_line c continues = elim (cases_lt c 128) [
  | inl small ↦ subst IsLine (sym (encode_ascii c small)) (both_true (letter_line c (sym (is_xid_continue-ascii c small) ∙ continues)) refl)
  | inr high ↦ all_high_line (encode_utf8 c) (char_high c high)
]

chars_line : (cs : List ℕ) → list_all is_xid_continue cs ≡ true → IsLine (encode_utf8_all cs)
chars_line [] all = refl
chars_line (c ∷ cs) all =
    let parts = and_parts (is_xid_continue c) (list_all is_xid_continue cs) all in
    line_append (encode_utf8 c) (encode_utf8_all cs) (char_line c parts.0) (chars_line cs parts.1)

pub comment_name : (name : List ℕ) → IsToken Name name → IsComment name
comment_name name is =
    let n = name_begins name is in
    (token_utf8 Name name is, subst IsLine (sym n.2) (line_append (encode_utf8 n.0) (encode_utf8_all n.1) (char_line n.0 (begins_continues n.0 n.3)) (chars_line n.1 n.4)))

-- ---- names of meanings

meant_is : (m : Meaning) (o : Option Meaning) → is_meant m o ≡ true → o ≡ Some m
meant_is m None e = absurd cc
meant_is m (Some n) e = ap Some (sym (same_meaning m n e))

module _ (w : ScopeParts) (m : Meaning) where
  chosen_or_none : (b : Bool) (x rest : List ℕ) → is_meant m (meaning w x) ≡ b → (rest ≡ []) ⊎ Means w rest m → (cond b x rest ≡ []) ⊎ Means w (cond b x rest) m
  chosen_or_none true x rest e later = inr (meant_is m (meaning w x) e)
  chosen_or_none false x rest e later = later

  first_or_none : (names : List (List ℕ)) → (first_name w m names ≡ []) ⊎ Means w (first_name w m names) m
  first_or_none [] = inl refl
  first_or_none (x ∷ xs) = chosen_or_none (is_meant m (meaning w x)) x (first_name w m xs) refl (first_or_none xs)

-- the name found for a meaning may be a comment
pub name_is_comment : (w : ScopeParts) → IsWellFormed w → (m : Meaning) → IsComment (name_of w m)
name_is_comment w well m =
    ⊎_elim
    (λ (none : name_of w m ≡ []). subst IsComment (sym none) comment_nil)
    (λ (means : Means w (name_of w m) m). comment_name (name_of w m) (well.identifiers (name_of w m) m means).name)
    (first_or_none w m (keys w.meanings))

pub plain_test : (k : ℕ) → IsComment (plain_name (Test k))
plain_test k = comment_append (codes "t") (decimal k) (shown_comment (codes "t") refl) (comment_decimal k)

pub plain_action : (k : ℕ) → IsComment (plain_name (Action k))
plain_action k = comment_append (codes "a") (decimal k) (shown_comment (codes "a") refl) (comment_decimal k)
