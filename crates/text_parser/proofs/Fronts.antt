-- The first token of a text, by its first character.
use Rattle.std.proofs.Common.{◌≡◌, ◌≤◌, ◌<◌, ◌+◌, ℕ, List, [], ◌∷◌, ◌++◌, length, drop, take, Bool, true, false, refl, sym, ap, ◌∙◌, arith, subst, length-append, length-take-le, length-drop, take-append-drop, append_assoc, get_or, zero, suc, cond, add-one, if◌then◌else◌}
use Rattle.std.proofs.lemmas.Bool.{not-false, and_parts}
use Rattle.std.proofs.lemmas.List.{length-take}
use Rattle.std.proofs.lemmas.List.Sums.{take_while-cons}
use Rattle.std.specs.Cmp.Derive.{both_true}
use Rattle.std.specs.Prelude.{encode_utf8, encode_utf8_all, take_while}
use Rattle.std.specs.List.{list_all, prefix_len}
use Rattle.std.specs.Char.{is_ascii_digit}
use Rattle.std.specs.Str.{IsUtf8, NonePass, IsCharBoundary}
use Rattle.std.proofs.lemmas.Str.{encode_same, chars_from_encodes, IsUtf8-take, char_from_byte, encode_ascii, IsCharBoundary-start, IsCharBoundary-after_ascii}
use Rattle.unicode_ident.specs.Ident.{is_xid_continue}
use Rattle.text_parser.specs.declared.token.Kind.{Kind}
use Rattle.text_parser.specs.declared.token.Kind.TheVariants.{Name, Number, Symbol}
use Rattle.text_parser.specs.Kinds.{is_name, begins_name, is_symbol, IsToken}
use Rattle.text_parser.specs.Lex.{BeginsNone}
use Rattle.text_parser.specs.Working.Fronts.{symbol_len, IsNameLen, IsFirst}
use Rattle.text_parser.proofs.NameRuns.{ends_run}
use Rattle.text_parser.proofs.Beginnings.{is_mark, symbol_marks, symbol_begins, number_begins, number_digits, digits_number, name_begins, name_from_parts, begins_continues, begins_no_digit, begins_no_mark, digit_no_mark, digit_small, mark_small, char_some}
use Rattle.text_parser.proofs.Runs.{run_longest, digits_longest, digits_all, symbol_longest}

-- the text begins with character `c`
abbrev pub Begins : List ℕ → ℕ → Type 0
Begins text c = (rest : List ℕ) × (text ≡ encode_utf8 c ++ rest)

-- a token at the start of a text has the text's first character
pub same_first : (text : List ℕ) (c d : ℕ) (token tail more : List ℕ) → Begins text c → token ≡ encode_utf8 d ++ tail → text ≡ token ++ more → d ≡ c
same_first text c d token tail more (rest, e) opens front =
    (encode_same d c (tail ++ more) rest (sym (append_assoc (encode_utf8 d) tail more) ∙ ap (λ l. l ++ more) (sym opens) ∙ sym front ∙ e)).0

pub same_byte : (text : List ℕ) (c a : ℕ) (token tail more : List ℕ) → a < 128 → Begins text c → token ≡ a ∷ tail → text ≡ token ++ more → c ≡ a
same_byte text c a token tail more small (rest, e) opens front =
    let whole : text ≡ a ∷ (tail ++ more) = front ∙ ap (λ l. l ++ more) opens in
    let first : get_or text 0 0 ≡ a = ap (λ l. get_or l 0 0) whole in
    let some : 0 < length text = omega (arith, ap length whole) in
    char_from_byte text rest c e (omega (arith, first, small)) some ∙ first

-- the kind of a token at the start of a text restricts the text's first character
first_begins : (text : List ℕ) (c : ℕ) (token more : List ℕ) → Begins text c → IsToken Name token → text ≡ token ++ more → begins_name c ≡ true
first_begins text c token more begins named front =
    let name = name_begins token named in
    subst (λ v. begins_name v ≡ true) (same_first text c name.0 token (encode_utf8_all name.1) more begins name.2 front) name.3

first_digit : (text : List ℕ) (c : ℕ) (token more : List ℕ) → Begins text c → IsToken Number token → text ≡ token ++ more → is_ascii_digit c ≡ true
first_digit text c token more begins digits front =
    let number = number_begins token digits in
    subst (λ v. is_ascii_digit v ≡ true) (sym (same_byte text c number.0 token number.1 more (digit_small number.0 number.3) begins number.2 front)) number.3

first_mark : (text : List ℕ) (c : ℕ) (token more : List ℕ) → Begins text c → IsToken Symbol token → text ≡ token ++ more → is_mark c ≡ true
first_mark text c token more begins symbol front =
    let parts = symbol_begins token symbol in
    subst (λ v. is_mark v ≡ true) (sym (same_byte text c parts.0 token parts.1 more (mark_small parts.0 parts.3) begins parts.2 front)) parts.3

-- ---- names

continues_all : (cs : List ℕ) → NonePass ends_run cs → list_all is_xid_continue cs ≡ true
continues_all [] none = refl
continues_all (c ∷ cs) (here, none) = both_true (not-false (is_xid_continue c) here) (continues_all cs none)

-- a non-empty run that begins with a character that begins a name is a name
run_is_name : (text : List ℕ) (n c : ℕ) (cs : List ℕ) → Begins text c → begins_name c ≡ true → encode_utf8_all cs ≡ take n text → list_all is_xid_continue cs ≡ true → 0 < n → n ≤ length text → is_name cs ≡ true
run_is_name text n c [] begins starts e all some within = absurd (omega (arith, ap length e, length-take-le n text within))
run_is_name text n c (d ∷ ds) begins starts e all some within =
    let same : d ≡ c = same_first text c d (take n text) (encode_utf8_all ds) (drop n text) begins (sym e) (sym (take-append-drop n text)) in
    both_true (subst (λ v. begins_name v ≡ true) (sym same) starts) (and_parts (is_xid_continue d) (list_all is_xid_continue ds) all).1

-- the run is not empty if the first character begins a name
run_some : (text : List ℕ) (n c : ℕ) → Begins text c → begins_name c ≡ true → IsNameLen text n → 0 < n
run_some text zero c begins starts run =
    let some : 0 < length text = omega (arith, ap length begins.1, length-append (encode_utf8 c) begins.0, char_some c) in
    let end = run.ends some in
    let same = (encode_same end.0 c end.1 begins.0 (sym end.2 ∙ begins.1)).0 in
    let goes : is_xid_continue c ≡ true = begins_continues c starts in
    let stops : is_xid_continue c ≡ false = subst (λ v. is_xid_continue v ≡ false) same end.3 in
    cc
run_some text (suc n) c begins starts run = omega arith

-- no token at the start is longer than the run
run_no_longer : (text : List ℕ) (n c : ℕ) (cs : List ℕ) → Begins text c → begins_name c ≡ true → encode_utf8_all cs ≡ take n text → IsNameLen text n
    → (other : Kind) (longer rest : List ℕ) → IsToken other longer → text ≡ longer ++ rest → length longer ≤ length (take n text)
run_no_longer text n c cs begins starts spelled run Name longer rest named front =
    let name = name_begins longer named in
    let whole : encode_utf8_all (name.0 ∷ name.1) ++ rest ≡ encode_utf8_all cs ++ drop n text = ap (λ l. l ++ rest) (sym name.2) ∙ sym front ∙ sym (take-append-drop n text) ∙ ap (λ l. l ++ drop n text) (sym spelled) in
    let all : list_all is_xid_continue (name.0 ∷ name.1) ≡ true = both_true (begins_continues name.0 name.3) name.4 in
    let left : length (drop n text) + n ≡ length text = omega (arith, length-drop n text, run.within) in
    let shorter = run_longest is_xid_continue (name.0 ∷ name.1) cs rest (drop n text) whole all (λ some. run.ends (omega (arith, some, left))) in
    omega (arith, shorter, ap length name.2, ap length spelled)
run_no_longer text n c cs begins starts spelled run Number longer rest digits front =
    absurd (begins_no_digit c starts (first_digit text c longer rest begins digits front))
run_no_longer text n c cs begins starts spelled run Symbol longer rest symbol front =
    absurd (begins_no_mark c starts (first_mark text c longer rest begins symbol front))

-- if the first character begins a name, the run is the longest token
pub name_first : (text : List ℕ) (n c : ℕ) → IsUtf8 text → Begins text c → begins_name c ≡ true → IsNameLen text n → IsFirst Name n text
name_first text n c utf8 begins starts run =
    let cs = run.run.0 in
    let spelled : encode_utf8_all cs ≡ take n text = run.run.1 in
    let run_utf8 = IsUtf8-take text n utf8 run.cut in
    let some = run_some text n c begins starts run in
    let named = run_is_name text n c cs begins starts spelled (continues_all cs run.run.2) some run.within in
    record {
      some = some;
      within = run.within;
      cut = run.cut;
      longest = record {
        is_token = name_from_parts (take n text) run_utf8 (subst (λ l. is_name l ≡ true) (chars_from_encodes cs (take n text) run_utf8 spelled) named);
        front = (drop n text, sym (take-append-drop n text));
        longest = run_no_longer text n c cs begins starts spelled run;
      };
    }

-- ---- numbers

-- a text may be cut after a prefix of ASCII bytes
ascii_cut : (text : List ℕ) (n : ℕ) → IsUtf8 text → n ≤ length text → ((i : ℕ) → i < n → get_or text i 0 < 128) → IsCharBoundary text n
ascii_cut text zero utf8 within small = IsCharBoundary-start text utf8
ascii_cut text (suc n) utf8 within small = subst (IsCharBoundary text) (add-one n) (IsCharBoundary-after_ascii text n utf8 (omega (arith, within)) (small n (omega arith)))

small_step : (b : ℕ) (bs front : List ℕ) (t : Bool) → is_ascii_digit b ≡ t → ((i : ℕ) → i < length front → get_or bs i 0 < 128) → (i : ℕ) → i < length (cond t (b ∷ front) []) → get_or (b ∷ bs) i 0 < 128
small_step b bs front true e more zero below = digit_small b e
small_step b bs front true e more (suc i) below = more i (omega (arith, below))
small_step b bs front false e more i below = absurd (omega (arith, below))

digits_small : (bytes : List ℕ) (i : ℕ) → i < length (take_while is_ascii_digit bytes) → get_or bytes i 0 < 128
digits_small [] i below = absurd (omega (arith, below))
digits_small (b ∷ bs) i below = small_step b bs (take_while is_ascii_digit bs) (is_ascii_digit b) refl (digits_small bs) i (subst (λ l. i < length l) (take_while-cons is_ascii_digit b bs) below)

digits_within : (bytes : List ℕ) → length (take_while is_ascii_digit bytes) ≤ length bytes
digits_within bytes = simp length-take (omega arith)

-- the prefix as long as the leading run of digits is that run
digits_front : (bytes : List ℕ) → take (length (take_while is_ascii_digit bytes)) bytes ≡ take_while is_ascii_digit bytes
digits_front bytes = same_take (prefix_len is_ascii_digit bytes) bytes
  where
    same_take : (k : ℕ) (xs : List ℕ) → take (length (take k xs)) xs ≡ take k xs
    same_take zero xs = refl
    same_take (suc k) [] = refl
    same_take (suc k) (x ∷ xs) = ap (λ l. x ∷ l) (same_take k xs)

digits_no_longer : (text : List ℕ) (c : ℕ) → Begins text c → begins_name c ≡ false → is_ascii_digit c ≡ true
    → (other : Kind) (longer rest : List ℕ) → IsToken other longer → text ≡ longer ++ rest → length longer ≤ length (take (length (take_while is_ascii_digit text)) text)
digits_no_longer text c begins starts digit Name longer rest named front =
    let yes = first_begins text c longer rest begins named front in cc
digits_no_longer text c begins starts digit Number longer rest digits front =
    omega (arith, digits_longest longer rest text front (number_digits longer digits), ap length (digits_front text))
digits_no_longer text c begins starts digit Symbol longer rest symbol front =
    absurd (digit_no_mark c digit (first_mark text c longer rest begins symbol front))

-- if the first character is a digit, the run of digits is the longest token
pub number_first : (text : List ℕ) (c : ℕ) → IsUtf8 text → Begins text c → begins_name c ≡ false → is_ascii_digit c ≡ true → IsFirst Number (length (take_while is_ascii_digit text)) text
number_first text c utf8 begins starts digit =
    let n = length (take_while is_ascii_digit text) in
    let front = digits_front text in
    let one : text ≡ (c ∷ []) ++ begins.0 = begins.1 ∙ ap (λ l. l ++ begins.0) (encode_ascii c (digit_small c digit)) in
    let some : 1 ≤ n = digits_longest (c ∷ []) begins.0 text one (both_true digit refl) in
    let all : list_all is_ascii_digit (take n text) ≡ true = subst (λ l. list_all is_ascii_digit l ≡ true) (sym front) (digits_all text) in
    record {
      some = omega (arith, some);
      within = digits_within text;
      cut = ascii_cut text n utf8 (digits_within text) (digits_small text);
      longest = record {
        is_token = digits_number (take n text) (omega (arith, some, ap length front)) all;
        front = (drop n text, sym (take-append-drop n text));
        longest = digits_no_longer text c begins starts digit;
      };
    }

-- ---- symbols

-- the first `n` bytes are a symbol of ASCII bytes
record SymbolParts (text : List ℕ) (n : ℕ) : Type 0 where
  within : n ≤ length text
  symbol : IsToken Symbol (take n text)
  small : (i : ℕ) → i < n → get_or text i 0 < 128

one_parts : (a : ℕ) (more : List ℕ) (t : Bool) → is_symbol (a ∷ []) ≡ t → 0 < (if t then 1 else 0) → SymbolParts (a ∷ more) (if t then 1 else 0)
one_parts a more true e some = record { within = omega arith; symbol = e; small = λ i below. at i below }
  where
    at : (i : ℕ) → i < 1 → get_or (a ∷ more) i 0 < 128
    at zero below = mark_small a (symbol_marks (a ∷ []) e)
    at (suc i) below = absurd (omega (arith, below))
one_parts a more false e some = absurd (omega (arith, some))

two_parts : (a b : ℕ) (more : List ℕ) (t : Bool) → is_symbol (a ∷ b ∷ []) ≡ t → 0 < (if t then 2 else (if is_symbol (a ∷ []) then 1 else 0)) → SymbolParts (a ∷ b ∷ more) (if t then 2 else (if is_symbol (a ∷ []) then 1 else 0))
two_parts a b more true e some = record { within = omega arith; symbol = e; small = λ i below. at i below }
  where
    at : (i : ℕ) → i < 2 → get_or (a ∷ b ∷ more) i 0 < 128
    at zero below = mark_small a (and_parts (is_mark a) (is_mark b) (symbol_marks (a ∷ b ∷ []) e)).0
    at (suc zero) below = mark_small b (and_parts (is_mark a) (is_mark b) (symbol_marks (a ∷ b ∷ []) e)).1
    at (suc (suc i)) below = absurd (omega (arith, below))
two_parts a b more false e some = one_parts a (b ∷ more) (is_symbol (a ∷ [])) refl some

symbol_parts : (text : List ℕ) → 0 < symbol_len text → SymbolParts text (symbol_len text)
symbol_parts [] some = absurd (omega (arith, some))
symbol_parts (a ∷ []) some = one_parts a [] (is_symbol (a ∷ [])) refl some
symbol_parts (a ∷ b ∷ more) some = two_parts a b more (is_symbol (a ∷ b ∷ [])) refl some

symbol_no_longer : (text : List ℕ) (c : ℕ) → Begins text c → begins_name c ≡ false → is_ascii_digit c ≡ false → symbol_len text ≤ length text
    → (other : Kind) (longer rest : List ℕ) → IsToken other longer → text ≡ longer ++ rest → length longer ≤ length (take (symbol_len text) text)
symbol_no_longer text c begins starts digit within Name longer rest named front =
    let yes = first_begins text c longer rest begins named front in cc
symbol_no_longer text c begins starts digit within Number longer rest digits front =
    let yes = first_digit text c longer rest begins digits front in cc
symbol_no_longer text c begins starts digit within Symbol longer rest symbol front =
    omega (arith, symbol_longest longer rest text front symbol, length-take-le (symbol_len text) text within)

-- if any other character comes first, the longest symbol is the longest token
pub symbol_first : (text : List ℕ) (c : ℕ) → IsUtf8 text → Begins text c → begins_name c ≡ false → is_ascii_digit c ≡ false → 0 < symbol_len text → IsFirst Symbol (symbol_len text) text
symbol_first text c utf8 begins starts digit some =
    let parts = symbol_parts text some in
    let n = symbol_len text in
    record {
      some = some;
      within = parts.within;
      cut = ascii_cut text n utf8 parts.within parts.small;
      longest = record {
        is_token = parts.symbol;
        front = (drop n text, sym (take-append-drop n text));
        longest = symbol_no_longer text c begins starts digit parts.within;
      };
    }

-- ---- no token

pub none_first : (text : List ℕ) (c : ℕ) → Begins text c → begins_name c ≡ false → is_ascii_digit c ≡ false → symbol_len text ≡ 0 → BeginsNone text
none_first text c begins starts digit none Name token rest named front =
    let yes = first_begins text c token rest begins named front in cc
none_first text c begins starts digit none Number token rest digits front =
    let yes = first_digit text c token rest begins digits front in cc
none_first text c begins starts digit none Symbol token rest symbol front =
    let parts = symbol_begins token symbol in
    absurd (omega (arith, none, symbol_longest token rest text front symbol, ap length parts.2))

-- a token is not empty
pub token_some : (kind : Kind) (token : List ℕ) → IsToken kind token → 0 < length token
token_some Name token named =
    let name = name_begins token named in
    omega (arith, ap length name.2, length-append (encode_utf8 name.0) (encode_utf8_all name.1), char_some name.0)
token_some Number token digits = omega (arith, ap length (number_begins token digits).2)
token_some Symbol token symbol = omega (arith, ap length (symbol_begins token symbol).2)

pub none_empty : BeginsNone []
none_empty kind token rest is_token front = absurd (omega (arith, token_some kind token is_token, ap length front, length-append token rest))
