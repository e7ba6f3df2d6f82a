-- The words that a printer writes are tokens.
use Rattle.std.proofs.Common.{◌≡◌, ◌<◌, ◌^◌, ◌+◌, ◌%◌, ℕ, List, [], ◌∷◌, ◌++◌, Bool, true, false, ◌&&◌, ◌||◌, ◌==◌, refl, sym, ◌∙◌, subst, arith}
use Rattle.std.proofs.lemmas.Bool.{and_parts}
use Rattle.std.proofs.lemmas.Bool.Decides.{nat_tests}
use Rattle.std.proofs.lemmas.List.Folds.{list_all-append}
use Rattle.std.proofs.lemmas.Fmt.{decimal_by_steps}
use Rattle.std.proofs.lemmas.Str.{chars-IsAscii, IsUtf8-from_ascii}
use Rattle.std.proofs.lemmas.Str.Ascii.{IsAscii-cons, IsAscii-nil}
use Rattle.std.specs.Cmp.Derive.{both_true}
use Rattle.std.specs.Prelude.{decimal}
use Rattle.std.specs.List.{list_all}
use Rattle.std.specs.Char.{is_ascii_digit, is_ascii_alphabetic, is_ascii_alphanumeric}
use Rattle.std.specs.Str.{IsAscii}
use Rattle.unicode_ident.specs.Ident.{is_xid_continue}
use Rattle.unicode_ident.proofs.IdentLemmas.{is_xid_start-ascii, is_xid_continue-ascii}
use Rattle.text_parser.specs.declared.token.Kind.TheVariants.{Name, Number}
use Rattle.text_parser.specs.Kinds.{is_name, begins_name, IsToken}
use Rattle.text_parser.specs.Keywords.{keywords, is_keyword}
use Rattle.text_parser.proofs.Beginnings.{passes_all, name_from_parts}

-- ---- ASCII names

abbrev pub begins_word : ℕ → Bool
begins_word b = is_ascii_alphabetic b || (b == 95)

abbrev pub continues_word : ℕ → Bool
continues_word b = is_ascii_alphanumeric b || (b == 95)

-- a name of ASCII letters, digits and underscores
abbrev pub is_word : List ℕ → Bool
is_word [] = false
is_word (b ∷ bs) = begins_word b && list_all continues_word bs

begins_small : (b : ℕ) → begins_word b ≡ true → b < 128
begins_small b e = grind (arith, nat_tests)

continues_small : (b : ℕ) → continues_word b ≡ true → b < 128
continues_small b e = grind (arith, nat_tests)

continue_ascii : (bs : List ℕ) → list_all continues_word bs ≡ true → IsAscii bs
continue_ascii [] all = IsAscii-nil
continue_ascii (b ∷ bs) all = let parts = and_parts (continues_word b) (list_all continues_word bs) all in IsAscii-cons b bs (continues_small b parts.0) (continue_ascii bs parts.1)

continue_names : (bs : List ℕ) → list_all continues_word bs ≡ true → list_all is_xid_continue bs ≡ true
continue_names [] all = refl
continue_names (b ∷ bs) all =
    let parts = and_parts (continues_word b) (list_all continues_word bs) all in
    both_true (is_xid_continue-ascii b (continues_small b parts.0) ∙ parts.0) (continue_names bs parts.1)

begins_name_word : (b : ℕ) → begins_word b ≡ true → begins_name b ≡ true
begins_name_word b e = subst (λ t. (t || (b == 95)) ≡ true) (sym (is_xid_start-ascii b (begins_small b e))) e

pub word_is_name : (bytes : List ℕ) → is_word bytes ≡ true → IsToken Name bytes
word_is_name [] e = cc
word_is_name (b ∷ bs) e =
    let parts = and_parts (begins_word b) (list_all continues_word bs) e in
    let ascii : IsAscii (b ∷ bs) = IsAscii-cons b bs (begins_small b parts.0) (continue_ascii bs parts.1) in
    let named : is_name (b ∷ bs) ≡ true = both_true (begins_name_word b parts.0) (continue_names bs parts.1) in
    name_from_parts (b ∷ bs) (IsUtf8-from_ascii (b ∷ bs) ascii) (subst (λ cs. is_name cs ≡ true) (sym (chars-IsAscii (b ∷ bs) ascii)) named)

pub keyword_is_name : (bytes : List ℕ) → is_keyword bytes ≡ true → IsToken Name bytes
keyword_is_name bytes keyword = word_is_name bytes (passes_all is_word bytes keywords keyword refl)

-- ---- decimal numbers

digit_of : (n : ℕ) → n < 10 → is_ascii_digit (48 + n) ≡ true
digit_of n below = grind (arith, nat_tests)

number_goes_on : (ds : List ℕ) (d : ℕ) → IsToken Number ds → is_ascii_digit d ≡ true → IsToken Number (ds ++ d ∷ [])
number_goes_on [] d number digit = cc
number_goes_on (x ∷ xs) d number digit =
    let parts = and_parts (is_ascii_digit x) (list_all is_ascii_digit xs) number in
    both_true parts.0 (list_all-append is_ascii_digit xs (d ∷ []) ∙ both_true parts.1 (both_true digit refl))

pub decimal_is_number : (n : ℕ) → n < 2 ^ 64 → IsToken Number (decimal n)
decimal_is_number =
    decimal_by_steps (λ n ds. IsToken Number ds) (λ n below. both_true (digit_of n below) refl)
    (λ n ds more number. number_goes_on ds (48 + n % 10) number (digit_of (n % 10) (omega arith)))
