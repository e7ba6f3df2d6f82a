-- A text spelled by separate pieces has the tokens of its pieces.
use Rattle.std.proofs.Common.{◌≡◌, ◌≤◌, ◌<◌, ℕ, ◌+◌, List, [], ◌∷◌, ◌++◌, length, drop, Bool, true, false, not, nat_lt, ◌&&◌, ◌||◌, ◌==◌, if◌then◌else◌, refl, sym, ap, ◌∙◌, arith, subst, inl, inr, append_assoc, length-append, cond}
use Rattle.std.proofs.lemmas.List.{take_at, drop_at}
use Rattle.std.proofs.lemmas.List.Sums.{take_while-cons}
use Rattle.std.proofs.lemmas.Bool.{not-true, and_parts, cases_lt, ltb-true}
use Rattle.std.proofs.lemmas.Bool.Decides.{nat_tests}
use Rattle.std.proofs.lemmas.Str.{encode_ascii, IsUtf8-append, IsUtf8-nil, IsUtf8-from_ascii, IsCharBoundary-from_drop}
use Rattle.std.proofs.lemmas.Str.Ascii.{IsAscii-cons}
use Rattle.std.specs.Cmp.Derive.{both_true}
use Rattle.std.specs.Prelude.{encode_utf8, encode_utf8_all, take_while}
use Rattle.std.specs.List.{list_all}
use Rattle.std.specs.Char.{is_ascii_digit, is_ascii_alphabetic}
use Rattle.std.specs.Str.{IsUtf8, NonePass, IsCharBoundary, NoCharPasses}
use Rattle.unicode_ident.specs.Ident.{is_xid_continue}
use Rattle.unicode_ident.proofs.IdentLemmas.{is_xid_continue-ascii}
use Rattle.text_parser.specs.declared.lexer.TheConstants.{MAX_LEN}
use Rattle.text_parser.specs.declared.token.Kind.{Kind}
use Rattle.text_parser.specs.declared.token.Kind.TheVariants.{Name, Number, Symbol}
use Rattle.text_parser.specs.Kinds.{is_separator, begins_name, is_symbol, IsToken}
use Rattle.text_parser.specs.TokenParts.{TokenParts, token_parts}
use Rattle.text_parser.specs.Lex.{gap_len, gap_end, IsLongest, LexesFrom, Lexes}
use Rattle.text_parser.specs.Working.Fronts.{symbol_len, IsNameLen, IsFirst}
use Rattle.text_parser.specs.Pieces.{Piece, lexeme, gap, spelled, parts_from, ends_name, EndsBefore, AreSeparate}
use Rattle.text_parser.proofs.Beginnings.{is_mark, is_marks, symbol_marks, symbol_begins, number_begins, number_digits, name_begins, name_parts, begins_continues, begins_no_digit, begins_no_mark, begins_letter, digit_no_mark, digit_small, mark_small, char_some}
use Rattle.text_parser.proofs.NameRuns.{ends_run}
use Rattle.text_parser.proofs.Fronts.{Begins, name_first, number_first, symbol_first}
use Rattle.text_parser.proofs.Gaps.{no_gap_at, no_gap_high, char_high}

cut_after : (token rest : List ℕ) → IsUtf8 rest → IsCharBoundary (token ++ rest) (length token)
cut_after token rest utf8 = IsCharBoundary-from_drop (token ++ rest) (length token) (omega (arith, length-append token rest)) (subst IsUtf8 (sym (drop_at token rest (length token) refl)) utf8)

not_both : (b : Bool) → (b ≡ true → ⊥) → b ≡ false
not_both true h = absurd (h refl)
not_both false h = refl

-- ---- a name before bytes that do not extend it

none_passes : (cs : List ℕ) → list_all is_xid_continue cs ≡ true → NonePass ends_run cs
none_passes [] all = tt
none_passes (c ∷ cs) all = let parts = and_parts (is_xid_continue c) (list_all is_xid_continue cs) all in (rw (parts.0) refl, none_passes cs parts.1)

ends_small : (b : ℕ) → ends_name b ≡ true → b < 128
ends_small b e = ltb-true b 128 (and_parts (nat_lt b 128) _ e).0

ends_stops : (b : ℕ) → ends_name b ≡ true → is_xid_continue b ≡ false
ends_stops b e = is_xid_continue-ascii b (ends_small b e) ∙ not-true _ (and_parts (nat_lt b 128) _ e).1

name_stops : (name rest : List ℕ) → EndsBefore Name name rest → length name < length (name ++ rest) → (e : ℕ) × (past : List ℕ) × (drop (length name) (name ++ rest) ≡ encode_utf8 e ++ past) × (is_xid_continue e ≡ false)
name_stops name [] ends lt = absurd (omega (arith, length-append name []))
name_stops name (b ∷ bs) ends lt = (b, bs, drop_at name (b ∷ bs) (length name) refl ∙ ap (λ l. l ++ bs) (sym (encode_ascii b (ends_small b ends))), ends_stops b ends)

name_run : (name rest : List ℕ) → IsToken Name name → EndsBefore Name name rest → IsUtf8 rest → IsNameLen (name ++ rest) (length name)
name_run name rest named ends utf8 =
    let n = name_begins name named in
    let all : list_all is_xid_continue (n.0 ∷ n.1) ≡ true = both_true (begins_continues n.0 n.3) n.4 in
    record {
      within = omega (arith, length-append name rest);
      cut = cut_after name rest utf8;
      run = subst (NoCharPasses ends_run) (sym (take_at name rest (length name) refl)) (n.0 ∷ n.1, sym n.2, none_passes (n.0 ∷ n.1) all);
      ends = name_stops name rest ends;
    }

name_piece : (name rest : List ℕ) → IsUtf8 (name ++ rest) → IsUtf8 rest → IsToken Name name → EndsBefore Name name rest → IsFirst Name (length name) (name ++ rest)
name_piece name rest whole utf8 named ends =
    let n = name_begins name named in
    let begins : Begins (name ++ rest) n.0 = (encode_utf8_all n.1 ++ rest, ap (λ l. l ++ rest) n.2 ∙ append_assoc (encode_utf8 n.0) (encode_utf8_all n.1) rest) in
    name_first (name ++ rest) (length name) n.0 whole begins n.3 (name_run name rest named ends utf8)

-- ---- a number before bytes that do not extend it

digits_stop : (rest number : List ℕ) → EndsBefore Number number rest → take_while is_ascii_digit rest ≡ []
digits_stop [] number ends = refl
digits_stop (b ∷ bs) number ends = subst (λ t. take_while is_ascii_digit (b ∷ bs) ≡ cond t (b ∷ take_while is_ascii_digit bs) []) ends (take_while-cons is_ascii_digit b bs)

digits_run : (number rest : List ℕ) → list_all is_ascii_digit number ≡ true → take_while is_ascii_digit rest ≡ [] → take_while is_ascii_digit (number ++ rest) ≡ number
digits_run [] rest all stop = stop
digits_run (d ∷ ds) rest all stop =
    let parts = and_parts (is_ascii_digit d) (list_all is_ascii_digit ds) all in
    subst (λ t. take_while is_ascii_digit (d ∷ (ds ++ rest)) ≡ cond t (d ∷ take_while is_ascii_digit (ds ++ rest)) []) parts.0 (take_while-cons is_ascii_digit d (ds ++ rest))
    ∙ ap (λ l. d ∷ l) (digits_run ds rest parts.1 stop)

-- an ASCII byte at the start of a text is its first character
byte_begins : (bytes more rest : List ℕ) (a : ℕ) → bytes ≡ a ∷ more → a < 128 → Begins (bytes ++ rest) a
byte_begins bytes more rest a e small = (more ++ rest, ap (λ l. l ++ rest) e ∙ ap (λ l. l ++ (more ++ rest)) (sym (encode_ascii a small)))

number_piece : (number rest : List ℕ) → IsUtf8 (number ++ rest) → IsToken Number number → EndsBefore Number number rest → IsFirst Number (length number) (number ++ rest)
number_piece number rest whole digits ends =
    let n = number_begins number digits in
    let run = digits_run number rest (number_digits number digits) (digits_stop rest number ends) in
    subst (λ l. IsFirst Number (length l) (number ++ rest)) run
    (number_first (number ++ rest) n.0 whole (byte_begins number n.1 rest n.0 n.2 (digit_small n.0 n.3)) (not_both (begins_name n.0) (λ s. begins_no_digit n.0 s n.3)) n.3)

-- ---- a symbol before bytes that do not extend it

choose_first : (s : Bool) (m n : ℕ) → s ≡ true → (if s then m else n) ≡ m
choose_first true m n e = refl
choose_first false m n e = cc

choose_second : (s t : Bool) (k m n : ℕ) → s ≡ false → t ≡ true → (if s then k else (if t then m else n)) ≡ m
choose_second true t k m n e f = cc
choose_second false true k m n e f = refl
choose_second false false k m n e f = cc

symbol_run : (sign rest : List ℕ) → IsToken Symbol sign → EndsBefore Symbol sign rest → symbol_len (sign ++ rest) ≡ length sign
symbol_run [] rest symbol ends = let no : is_marks [] ≡ true = symbol_marks [] symbol in cc
symbol_run (a ∷ []) [] symbol ends = choose_first (is_symbol (a ∷ [])) 1 0 symbol
symbol_run (a ∷ []) (b ∷ bs) symbol ends = choose_second (is_symbol (a ∷ b ∷ [])) (is_symbol (a ∷ [])) 2 1 0 ends symbol
symbol_run (a ∷ b ∷ []) rest symbol ends = choose_first (is_symbol (a ∷ b ∷ [])) 2 (if is_symbol (a ∷ []) then 1 else 0) symbol
symbol_run (a ∷ b ∷ c ∷ more) rest symbol ends = let no : is_marks (a ∷ b ∷ c ∷ more) ≡ true = symbol_marks (a ∷ b ∷ c ∷ more) symbol in cc

symbol_piece : (sign rest : List ℕ) → IsUtf8 (sign ++ rest) → IsToken Symbol sign → EndsBefore Symbol sign rest → IsFirst Symbol (length sign) (sign ++ rest)
symbol_piece sign rest whole symbol ends =
    let n = symbol_begins sign symbol in
    let run = symbol_run sign rest symbol ends in
    let some : 0 < symbol_len (sign ++ rest) = omega (arith, run, ap length n.2) in
    subst (λ k. IsFirst Symbol k (sign ++ rest)) run
    (symbol_first (sign ++ rest) n.0 whole (byte_begins sign n.1 rest n.0 n.2 (mark_small n.0 n.3)) (not_both (begins_name n.0) (λ s. begins_no_mark n.0 s n.3)) (not_both (is_ascii_digit n.0) (λ s. digit_no_mark n.0 s n.3)) some)

-- ---- any token

pub piece_longest : (kind : Kind) (token rest : List ℕ) → IsUtf8 (token ++ rest) → IsUtf8 rest → IsToken kind token → EndsBefore kind token rest → IsLongest kind token (token ++ rest)
piece_longest kind token rest whole utf8 is ends = subst (λ l. IsLongest kind l (token ++ rest)) (take_at token rest (length token) refl) (first kind is ends).longest
  where
    first : (kind : Kind) → IsToken kind token → EndsBefore kind token rest → IsFirst kind (length token) (token ++ rest)
    first Name is ends = name_piece token rest whole utf8 is ends
    first Number is ends = number_piece token rest whole is ends
    first Symbol is ends = symbol_piece token rest whole is ends

-- a character that begins a token does not begin a gap
letter_apart : (c : ℕ) → (is_ascii_alphabetic c || (c == 95)) ≡ true → (not (c == 35) && not (is_separator c)) ≡ true
letter_apart c letter = grind (arith, nat_tests)

digit_apart : (c : ℕ) → is_ascii_digit c ≡ true → (not (c == 35) && not (is_separator c)) ≡ true
digit_apart c digit = grind (arith, nat_tests)

mark_apart : (c : ℕ) → is_mark c ≡ true → (not (c == 35) && not (is_separator c)) ≡ true
mark_apart c m = grind (arith, nat_tests)

apart : (c : ℕ) (bs : List ℕ) → (not (c == 35) && not (is_separator c)) ≡ true → gap_len false (c ∷ bs) ≡ 0
apart c bs e = let parts = and_parts (not (c == 35)) (not (is_separator c)) e in no_gap_at c bs (not-true _ parts.0) (not-true _ parts.1)

char_no_gap : (c : ℕ) (rest : List ℕ) → begins_name c ≡ true → gap_len false (encode_utf8 c ++ rest) ≡ 0
char_no_gap c rest begins = elim (cases_lt c 128) [
  | inl small ↦ subst (λ l. gap_len false (l ++ rest) ≡ 0) (sym (encode_ascii c small)) (apart c rest (letter_apart c (begins_letter c small begins)))
  | inr high ↦ no_gap_high (encode_utf8 c) rest (char_some c) (char_high c high)
]

pub token_no_gap : (kind : Kind) (token rest : List ℕ) → IsToken kind token → gap_len false (token ++ rest) ≡ 0
token_no_gap Name token rest named =
    let n = name_begins token named in
    let opened : token ++ rest ≡ encode_utf8 n.0 ++ (encode_utf8_all n.1 ++ rest) = ap (λ l. l ++ rest) n.2 ∙ append_assoc (encode_utf8 n.0) (encode_utf8_all n.1) rest in
    subst (λ l. gap_len false l ≡ 0) (sym opened) (char_no_gap n.0 (encode_utf8_all n.1 ++ rest) n.3)
token_no_gap Number token rest digits =
    let n = number_begins token digits in
    subst (λ l. gap_len false (l ++ rest) ≡ 0) (sym n.2) (apart n.0 (n.1 ++ rest) (digit_apart n.0 n.3))
token_no_gap Symbol token rest symbol =
    let n = symbol_begins token symbol in
    subst (λ l. gap_len false (l ++ rest) ≡ 0) (sym n.2) (apart n.0 (n.1 ++ rest) (mark_apart n.0 n.3))

-- ---- the text of pieces

byte_utf8 : (b : ℕ) → b < 128 → IsUtf8 (b ∷ [])
byte_utf8 b small = IsUtf8-from_ascii (b ∷ []) (IsAscii-cons b [] small (λ i. omega arith))

ascii_all : (bytes : List ℕ) (p : ℕ → Bool) → ((b : ℕ) → p b ≡ true → b < 128) → list_all p bytes ≡ true → IsUtf8 bytes
ascii_all [] p small all = IsUtf8-nil
ascii_all (b ∷ bs) p small all =
    let parts = and_parts (p b) (list_all p bs) all in
    IsUtf8-append (b ∷ []) bs (byte_utf8 b (small b parts.0)) (ascii_all bs p small parts.1)

marks_utf8 : (bytes : List ℕ) → is_marks bytes ≡ true → IsUtf8 bytes
marks_utf8 [] e = cc
marks_utf8 (a ∷ []) e = byte_utf8 a (mark_small a e)
marks_utf8 (a ∷ b ∷ []) e = let parts = and_parts (is_mark a) (is_mark b) e in IsUtf8-append (a ∷ []) (b ∷ []) (byte_utf8 a (mark_small a parts.0)) (byte_utf8 b (mark_small b parts.1))
marks_utf8 (a ∷ b ∷ c ∷ more) e = cc

pub token_utf8 : (kind : Kind) (token : List ℕ) → IsToken kind token → IsUtf8 token
token_utf8 Name token named = (name_parts token named).0
token_utf8 Number token digits = ascii_all token is_ascii_digit digit_small (number_digits token digits)
token_utf8 Symbol token symbol = marks_utf8 token (symbol_marks token symbol)

separator_small : (b : ℕ) → is_separator b ≡ true → b < 128
separator_small b e = grind (arith, nat_tests)

pub spelled_utf8 : (ps : List Piece) → AreSeparate ps → IsUtf8 (spelled ps)
spelled_utf8 [] good = IsUtf8-nil
spelled_utf8 (lexeme kind token ∷ ps) good = IsUtf8-append token (spelled ps) (token_utf8 kind token good.0) (spelled_utf8 ps good.2)
spelled_utf8 (gap b ∷ ps) good = IsUtf8-append (b ∷ []) (spelled ps) (byte_utf8 b (separator_small b good.0)) (spelled_utf8 ps good.1)

-- ---- the tokens of pieces

-- a token, followed by the tokens of the rest, lexes at the place where it begins
token_lexes : (before token rest : List ℕ) (kind : Kind) (ms : List TokenParts) (end : ℕ) → IsToken kind token → IsLongest kind token (token ++ rest)
    → LexesFrom (before ++ (token ++ rest)) (length before + length token) ms end → LexesFrom (before ++ (token ++ rest)) (length before) (token_parts kind (length before) token ∷ ms) end
token_lexes before token rest kind ms end is longest more =
    let here : drop (length before) (before ++ (token ++ rest)) ≡ token ++ rest = drop_at before (token ++ rest) (length before) refl in
    let none : gap_len false (drop (length before) (before ++ (token ++ rest))) ≡ 0 = ap (gap_len false) here ∙ token_no_gap kind token rest is in
    (omega (arith, none), subst (IsLongest kind token) (sym here) longest, more)

separator_no_comment : (b : ℕ) → is_separator b ≡ true → (b == 35) ≡ false
separator_no_comment b e = grind (arith, nat_tests)

pub separator_len : (b : ℕ) (bs : List ℕ) → is_separator b ≡ true → gap_len false (b ∷ bs) ≡ 1 + gap_len false bs
separator_len b bs e = choose_second (b == 35) (is_separator b) (1 + gap_len true bs) (1 + gap_len false bs) 0 (separator_no_comment b e) e

-- a separator does not change where the gap ends
gap_moves : (before rest : List ℕ) (b : ℕ) → is_separator b ≡ true → gap_end (before ++ (b ∷ rest)) (length before + 1) ≡ gap_end (before ++ (b ∷ rest)) (length before)
gap_moves before rest b e =
    let here : gap_len false (drop (length before) (before ++ (b ∷ rest))) ≡ 1 + gap_len false rest = ap (gap_len false) (drop_at before (b ∷ rest) (length before) refl) ∙ separator_len b rest e in
    let longer : length (before ++ b ∷ []) ≡ length before + 1 = length-append before (b ∷ []) in
    let later : drop (length before + 1) (before ++ (b ∷ rest)) ≡ rest =
    ap (drop (length before + 1)) (sym (append_assoc before (b ∷ []) rest)) ∙ drop_at (before ++ b ∷ []) rest (length before + 1) longer in
    omega (arith, here, ap (gap_len false) later)

gap_lexes : (before rest : List ℕ) (b : ℕ) (ms : List TokenParts) (end : ℕ) → is_separator b ≡ true → LexesFrom (before ++ (b ∷ rest)) (length before + 1) ms end → LexesFrom (before ++ (b ∷ rest)) (length before) ms end
gap_lexes before rest b [] end e more = sym (gap_moves before rest b e) ∙ more
gap_lexes before rest b (token_parts kind place token ∷ ms) end e (here, longest, more) = (sym (gap_moves before rest b e) ∙ here, longest, more)

-- the place after a prefix, in terms of the prefix's length
moved : (before front rest : List ℕ) (n : ℕ) (ps : List Piece) (end : ℕ) → length front ≡ n → LexesFrom ((before ++ front) ++ rest) (length (before ++ front)) (parts_from (length (before ++ front)) ps) end
    → LexesFrom (before ++ (front ++ rest)) (length before + n) (parts_from (length before + n) ps) end
moved before front rest n ps end len more =
    let e : length (before ++ front) ≡ length before + n = length-append before front ∙ ap (λ k. length before + k) len in
    subst (λ text. LexesFrom text (length before + n) (parts_from (length before + n) ps) end) (append_assoc before front rest)
    (subst (λ k. LexesFrom ((before ++ front) ++ rest) k (parts_from k ps) end) e more)

pub spelled_lexes : (before : List ℕ) (ps : List Piece) → AreSeparate ps → LexesFrom (before ++ spelled ps) (length before) (parts_from (length before) ps) (length before + length (spelled ps))
spelled_lexes before [] good =
    let none : drop (length before) (before ++ []) ≡ [] = drop_at before [] (length before) refl in
    omega (arith, ap (gap_len false) none)
spelled_lexes before (lexeme kind token ∷ ps) good =
    let whole : IsUtf8 (token ++ spelled ps) = spelled_utf8 (lexeme kind token ∷ ps) good in
    let longest = piece_longest kind token (spelled ps) whole (spelled_utf8 ps good.2) good.0 good.1 in
    let len : length (before ++ token) + length (spelled ps) ≡ length before + length (token ++ spelled ps) = omega (arith, length-append before token, length-append token (spelled ps)) in
    let later : LexesFrom ((before ++ token) ++ spelled ps) (length (before ++ token)) (parts_from (length (before ++ token)) ps) (length before + length (token ++ spelled ps)) =
    subst (LexesFrom ((before ++ token) ++ spelled ps) (length (before ++ token)) (parts_from (length (before ++ token)) ps)) len (spelled_lexes (before ++ token) ps good.2) in
    token_lexes before token (spelled ps) kind (parts_from (length before + length token) ps) (length before + length (token ++ spelled ps)) good.0 longest
    (moved before token (spelled ps) (length token) ps (length before + length (token ++ spelled ps)) refl later)
spelled_lexes before (gap b ∷ ps) good =
    let len : length (before ++ b ∷ []) + length (spelled ps) ≡ length before + length (b ∷ spelled ps) = omega (arith, length-append before (b ∷ [])) in
    let later : LexesFrom ((before ++ b ∷ []) ++ spelled ps) (length (before ++ b ∷ [])) (parts_from (length (before ++ b ∷ [])) ps) (length before + length (b ∷ spelled ps)) =
    subst (LexesFrom ((before ++ b ∷ []) ++ spelled ps) (length (before ++ b ∷ [])) (parts_from (length (before ++ b ∷ [])) ps)) len (spelled_lexes (before ++ b ∷ []) ps good.1) in
    gap_lexes before (spelled ps) b (parts_from (length before + 1) ps) (length before + length (b ∷ spelled ps)) good.0
    (moved before (b ∷ []) (spelled ps) 1 ps (length before + length (b ∷ spelled ps)) refl later)

pub printed : (ps : List Piece) → AreSeparate ps → length (spelled ps) ≤ MAX_LEN → Lexes (spelled ps) (parts_from 0 ps)
printed ps good within = record {
  is_text = record { within = within; utf8 = spelled_utf8 ps good };
  tokens = subst (LexesFrom (spelled ps) 0 (parts_from 0 ps)) (omega arith) (spelled_lexes [] ps good);
}
