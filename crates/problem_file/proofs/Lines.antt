-- Texts of lines, each with tokens or with a comment, have the tokens of their lines.
use Rattle.std.proofs.Common.{◌≡◌, ◌≤◌, ◌<◌, ℕ, ◌+◌, List, [], ◌∷◌, ◌++◌, length, drop, true, false, not, ◌==◌, refl, sym, ap, ◌∙◌, arith, subst, append_assoc, length-append}
use Rattle.std.proofs.lemmas.List.{drop_at, drop-drop}
use Rattle.std.proofs.lemmas.Bool.{and_parts}
use Rattle.std.proofs.lemmas.Str.{IsUtf8-append, IsUtf8-nil, IsUtf8-from_ascii}
use Rattle.std.proofs.lemmas.Str.Ascii.{IsAscii-cons}
use Rattle.std.specs.List.{list_all}
use Rattle.std.specs.Str.{IsUtf8}
use Rattle.text_parser.specs.declared.lexer.TheConstants.{MAX_LEN}
use Rattle.text_parser.specs.declared.token.Kind.{Kind}
use Rattle.text_parser.specs.declared.token.Kind.TheVariants.{Name, Number, Symbol}
use Rattle.text_parser.specs.TokenParts.{TokenParts, token_parts}
use Rattle.text_parser.specs.Lex.{gap_len, gap_end, IsLongest, LexesFrom, Lexes}
use Rattle.text_parser.specs.Pieces.{Piece, lexeme, gap, spelled, parts_from, EndsBefore, AreSeparate}
use Rattle.text_parser.proofs.Printed.{piece_longest, token_no_gap, separator_len, spelled_utf8}
use Rattle.problem_file.specs.CommentedTexts.{IsComment, comment_text}

-- ---- lines as pieces

-- a line with these pieces and a line feed, or a comment
pub data Line : Type 0 where
  code : (ps : List Piece) → Line
  remark : (bytes : List ℕ) → Line

-- these bytes as separators, which give no tokens
abbrev pub gaps : List ℕ → List Piece → List Piece
gaps [] ps = ps
gaps (b ∷ bs) ps = gap b ∷ gaps bs ps

abbrev pub comment_pieces : List ℕ → List Piece → List Piece
comment_pieces c ps = gap 35 ∷ gaps c (gap 10 ∷ ps)

abbrev pub lines_pieces : List Line → List Piece
lines_pieces [] = []
lines_pieces (code ps ∷ ls) = ps ++ (gap 10 ∷ lines_pieces ls)
lines_pieces (remark c ∷ ls) = comment_pieces c (lines_pieces ls)

-- no piece of a line extends the one before it, and comments are text in one line
abbrev pub AreLines : List Line → Type 0
AreLines [] = Unit {0}
AreLines (code ps ∷ ls) = AreSeparate (ps ++ gap 10 ∷ []) × AreLines ls
AreLines (remark c ∷ ls) = IsComment c × AreLines ls

spelled-append : (ps qs : List Piece) → spelled (ps ++ qs) ≡ spelled ps ++ spelled qs
spelled-append [] qs = refl
spelled-append (lexeme kind bytes ∷ ps) qs = ap (λ (l : List ℕ). bytes ++ l) (spelled-append ps qs) ∙ sym (append_assoc bytes (spelled ps) (spelled qs))
spelled-append (gap b ∷ ps) qs = ap (λ (l : List ℕ). b ∷ l) (spelled-append ps qs)

spelled-gaps : (bs : List ℕ) (ps : List Piece) → spelled (gaps bs ps) ≡ bs ++ spelled ps
spelled-gaps [] ps = refl
spelled-gaps (b ∷ bs) ps = ap (λ (l : List ℕ). b ∷ l) (spelled-gaps bs ps)

pub spelled-comment : (c : List ℕ) (ps : List Piece) → spelled (comment_pieces c ps) ≡ comment_text c ++ spelled ps
spelled-comment c ps = ap (λ (l : List ℕ). 35 ∷ l) (spelled-gaps c (gap 10 ∷ ps) ∙ sym (append_assoc c (10 ∷ []) (spelled ps)))

-- at equal places
parts_at : (m n : ℕ) (ps : List Piece) → m ≡ n → parts_from m ps ≡ parts_from n ps
parts_at m n ps e = ap (λ (k : ℕ). parts_from k ps) e

parts-gaps : (bs : List ℕ) (at : ℕ) (ps : List Piece) → parts_from at (gaps bs ps) ≡ parts_from (at + length bs) ps
parts-gaps [] at ps = parts_at at (at + 0) ps (omega arith)
parts-gaps (b ∷ bs) at ps = parts-gaps bs (at + 1) ps ∙ parts_at (at + 1 + length bs) (at + length (b ∷ bs)) ps (omega arith)

length-comment : (c : List ℕ) → length (comment_text c) ≡ length c + 2
length-comment c = omega (arith, length-append c (10 ∷ []))

parts-comment : (c : List ℕ) (at : ℕ) (ps : List Piece) → parts_from at (comment_pieces c ps) ≡ parts_from (at + length (comment_text c)) ps
parts-comment c at ps =
    parts-gaps c (at + 1) (gap 10 ∷ ps)
    ∙ parts_at (at + 1 + length c + 1) (at + length (comment_text c)) ps (omega (arith, length-comment c))

-- ---- places in a text

-- the bytes after these
later : (text : List ℕ) (at : ℕ) (front rest : List ℕ) → drop at text ≡ front ++ rest → drop (at + length front) text ≡ rest
later text at front rest here = sym (drop-drop (length front) at text) ∙ ap (drop (length front)) here ∙ drop_at front rest (length front) refl

-- tokens after a longer gap
skip : (text : List ℕ) (at next : ℕ) (ms : List TokenParts) (end : ℕ) → gap_end text next ≡ gap_end text at → LexesFrom text next ms end → LexesFrom text at ms end
skip text at next [] end e more = sym e ∙ more
skip text at next (token_parts kind place token ∷ ms) end e (here, longest, more) = (sym e ∙ here, longest, more)

-- bytes that are a gap do not change the tokens
skip_front : (text : List ℕ) (at : ℕ) (front rest : List ℕ) (ms : List TokenParts) (end : ℕ) → drop at text ≡ front ++ rest → gap_len false (front ++ rest) ≡ length front + gap_len false rest
    → LexesFrom text (at + length front) ms end → LexesFrom text at ms end
skip_front text at front rest ms end here skips more =
    let before : gap_len false (drop at text) ≡ length front + gap_len false rest = ap (gap_len false) here ∙ skips in
    let after : gap_len false (drop (at + length front) text) ≡ gap_len false rest = ap (gap_len false) (later text at front rest here) in
    skip text at (at + length front) ms end (omega (arith, before, after)) more

-- ---- gaps

in_comment : (bytes rest : List ℕ) → list_all (λ b. not (b == 10)) bytes ≡ true → gap_len true (bytes ++ (10 ∷ rest)) ≡ length bytes + 1 + gap_len false rest
in_comment [] rest all = omega arith
in_comment (b ∷ bs) rest all =
    let parts = and_parts (not (b == 10)) (list_all (λ c. not (c == 10)) bs) all in
    let inner : gap_len (not (b == 10)) (bs ++ (10 ∷ rest)) ≡ gap_len true (bs ++ (10 ∷ rest)) = ap (λ c. gap_len c (bs ++ (10 ∷ rest))) parts.0 in
    omega (arith, inner, in_comment bs rest parts.1)

comment_skips : (c rest : List ℕ) → IsComment c → gap_len false (comment_text c ++ rest) ≡ length (comment_text c) + gap_len false rest
comment_skips c rest is =
    let line : gap_len true ((c ++ 10 ∷ []) ++ rest) ≡ gap_len true (c ++ (10 ∷ rest)) = ap (gap_len true) (append_assoc c (10 ∷ []) rest) in
    omega (arith, line, in_comment c rest is.1, length-comment c)

-- ---- one line

-- what does not extend a token at the end of some bytes does not extend it if more bytes follow
ends_with : (kind : Kind) (token front rest : List ℕ) → 0 < length front → EndsBefore kind token front → EndsBefore kind token (front ++ rest)
ends_with kind token [] rest some e = absurd (omega (arith, some))
ends_with Name token (b ∷ bs) rest some e = e
ends_with Number token (b ∷ bs) rest some e = e
ends_with Symbol token (b ∷ bs) rest some e = e

-- the bytes of the pieces of a line
abbrev line_text : List Piece → List ℕ
line_text ps = spelled (ps ++ gap 10 ∷ [])

line_some : (ps : List Piece) → 0 < length (line_text ps)
line_some ps = omega (arith, ap (λ (l : List ℕ). length l) (spelled-append ps (gap 10 ∷ [])), length-append (spelled ps) (10 ∷ []))

line_lexes : (ps : List Piece) → AreSeparate (ps ++ gap 10 ∷ []) → (tail : List ℕ) → IsUtf8 tail → (text : List ℕ) (at : ℕ) (ms : List TokenParts) (end : ℕ) → drop at text ≡ line_text ps ++ tail
    → LexesFrom text (at + length (line_text ps)) ms end → LexesFrom text at (parts_from at ps ++ ms) end
line_lexes [] good tail utf8 text at ms end here more = skip_front text at (10 ∷ []) tail ms end here refl more
line_lexes (lexeme kind token ∷ ps) good tail utf8 text at ms end here more =
    let rest = line_text ps ++ tail in
    let there : drop at text ≡ token ++ rest = here ∙ append_assoc token (line_text ps) tail in
    let inside : IsUtf8 rest = IsUtf8-append (line_text ps) tail (spelled_utf8 (ps ++ gap 10 ∷ []) good.2) utf8 in
    let whole : IsUtf8 (token ++ rest) =
    subst IsUtf8 (append_assoc token (line_text ps) tail) (IsUtf8-append (token ++ line_text ps) tail (spelled_utf8 (lexeme kind token ∷ (ps ++ gap 10 ∷ [])) good) utf8) in
    let longest = piece_longest kind token rest whole inside good.0 (ends_with kind token (line_text ps) tail (line_some ps) good.1) in
    let none : gap_len false (drop at text) ≡ 0 = ap (gap_len false) there ∙ token_no_gap kind token rest good.0 in
    let place : at + length (token ++ line_text ps) ≡ at + length token + length (line_text ps) = omega (arith, length-append token (line_text ps)) in (
      omega (arith, none),
      subst (IsLongest kind token) (sym there) longest,
      line_lexes ps good.2 tail utf8 text (at + length token) ms end (later text at token rest there) (subst (λ (n : ℕ). LexesFrom text n ms end) place more),
    )
line_lexes (gap b ∷ ps) good tail utf8 text at ms end here more =
    let rest = line_text ps ++ tail in
    let place : at + length (b ∷ line_text ps) ≡ at + 1 + length (line_text ps) = omega arith in
    skip_front text at (b ∷ []) rest (parts_from (at + 1) ps ++ ms) end here (separator_len b rest good.0)
    (line_lexes ps good.1 tail utf8 text (at + 1) ms end (later text at (b ∷ []) rest here) (subst (λ (n : ℕ). LexesFrom text n ms end) place more))

-- ---- all lines

mark_utf8 : IsUtf8 (35 ∷ [])
mark_utf8 = IsUtf8-from_ascii (35 ∷ []) (IsAscii-cons 35 [] (omega arith) (λ i. omega arith))

feed_utf8 : IsUtf8 (10 ∷ [])
feed_utf8 = IsUtf8-from_ascii (10 ∷ []) (IsAscii-cons 10 [] (omega arith) (λ i. omega arith))

comment_utf8 : (c : List ℕ) → IsComment c → IsUtf8 (comment_text c)
comment_utf8 c is = IsUtf8-append (35 ∷ []) (c ++ 10 ∷ []) mark_utf8 (IsUtf8-append c (10 ∷ []) is.0 feed_utf8)

-- a line and those after it
line-append : (ps : List Piece) (ls : List Line) → spelled (lines_pieces (code ps ∷ ls)) ≡ line_text ps ++ spelled (lines_pieces ls)
line-append ps ls =
    spelled-append ps (gap 10 ∷ lines_pieces ls)
    ∙ sym (append_assoc (spelled ps) (10 ∷ []) (spelled (lines_pieces ls)))
    ∙ ap (λ (l : List ℕ). l ++ spelled (lines_pieces ls)) (sym (spelled-append ps (gap 10 ∷ [])))

lines_utf8 : (ls : List Line) → AreLines ls → IsUtf8 (spelled (lines_pieces ls))
lines_utf8 [] good = IsUtf8-nil
lines_utf8 (code ps ∷ ls) good =
    subst IsUtf8 (sym (line-append ps ls)) (IsUtf8-append (line_text ps) (spelled (lines_pieces ls)) (spelled_utf8 (ps ++ gap 10 ∷ []) good.0) (lines_utf8 ls good.1))
lines_utf8 (remark c ∷ ls) good =
    subst IsUtf8 (sym (spelled-comment c (lines_pieces ls))) (IsUtf8-append (comment_text c) (spelled (lines_pieces ls)) (comment_utf8 c good.0) (lines_utf8 ls good.1))

parts-append : (ps qs : List Piece) (at : ℕ) → parts_from at (ps ++ qs) ≡ parts_from at ps ++ parts_from (at + length (spelled ps)) qs
parts-append [] qs at = parts_at at (at + 0) qs (omega arith)
parts-append (lexeme kind bytes ∷ ps) qs at =
    ap (λ (l : List TokenParts). token_parts kind at bytes ∷ l)
    (parts-append ps qs (at + length bytes)
    ∙ ap (λ (l : List TokenParts). parts_from (at + length bytes) ps ++ l)
    (parts_at (at + length bytes + length (spelled ps)) (at + length (bytes ++ spelled ps)) qs (omega (arith, length-append bytes (spelled ps)))))
parts-append (gap b ∷ ps) qs at =
    parts-append ps qs (at + 1)
    ∙ ap (λ (l : List TokenParts). parts_from (at + 1) ps ++ l) (parts_at (at + 1 + length (spelled ps)) (at + length (b ∷ spelled ps)) qs (omega arith))

-- the place after a line
line_place : (ps : List Piece) (at : ℕ) → at + length (spelled ps) + 1 ≡ at + length (line_text ps)
line_place ps at = omega (arith, ap (λ (l : List ℕ). length l) (spelled-append ps (gap 10 ∷ [])), length-append (spelled ps) (10 ∷ []))

lines_lex : (ls : List Line) → AreLines ls → (text : List ℕ) (at : ℕ) → drop at text ≡ spelled (lines_pieces ls) → LexesFrom text at (parts_from at (lines_pieces ls)) (at + length (spelled (lines_pieces ls)))
lines_lex [] good text at here = omega (arith, ap (gap_len false) here)
lines_lex (code ps ∷ ls) good text at here =
    let tail = spelled (lines_pieces ls) in
    let split : spelled (lines_pieces (code ps ∷ ls)) ≡ line_text ps ++ tail = line-append ps ls in
    let there : drop at text ≡ line_text ps ++ tail = here ∙ split in
    let next = at + length (line_text ps) in
    let rest : LexesFrom text next (parts_from next (lines_pieces ls)) (next + length tail) = lines_lex ls good.1 text next (later text at (line_text ps) tail there) in
    let first : LexesFrom text at (parts_from at ps ++ parts_from next (lines_pieces ls)) (next + length tail) =
    line_lexes ps good.0 tail (lines_utf8 ls good.1) text at (parts_from next (lines_pieces ls)) (next + length tail) there rest in
    let end : next + length tail ≡ at + length (spelled (lines_pieces (code ps ∷ ls))) = omega (arith, ap (λ (l : List ℕ). length l) split, length-append (line_text ps) tail) in
    let parts : parts_from at (lines_pieces (code ps ∷ ls)) ≡ parts_from at ps ++ parts_from next (lines_pieces ls) =
    parts-append ps (gap 10 ∷ lines_pieces ls) at ∙ ap (λ (l : List TokenParts). parts_from at ps ++ l) (parts_at (at + length (spelled ps) + 1) next (lines_pieces ls) (line_place ps at)) in
    subst (λ (ms : List TokenParts). LexesFrom text at ms (at + length (spelled (lines_pieces (code ps ∷ ls))))) (sym parts)
    (subst (λ (e : ℕ). LexesFrom text at (parts_from at ps ++ parts_from next (lines_pieces ls)) e) end first)
lines_lex (remark c ∷ ls) good text at here =
    let tail = spelled (lines_pieces ls) in
    let split : spelled (lines_pieces (remark c ∷ ls)) ≡ comment_text c ++ tail = spelled-comment c (lines_pieces ls) in
    let there : drop at text ≡ comment_text c ++ tail = here ∙ split in
    let next = at + length (comment_text c) in
    let rest : LexesFrom text next (parts_from next (lines_pieces ls)) (next + length tail) = lines_lex ls good.1 text next (later text at (comment_text c) tail there) in
    let first : LexesFrom text at (parts_from next (lines_pieces ls)) (next + length tail) =
    skip_front text at (comment_text c) tail (parts_from next (lines_pieces ls)) (next + length tail) there (comment_skips c tail good.0) rest in
    let end : next + length tail ≡ at + length (spelled (lines_pieces (remark c ∷ ls))) = omega (arith, ap (λ (l : List ℕ). length l) split, length-append (comment_text c) tail) in
    subst (λ (ms : List TokenParts). LexesFrom text at ms (at + length (spelled (lines_pieces (remark c ∷ ls))))) (sym (parts-comment c at (lines_pieces ls)))
    (subst (λ (e : ℕ). LexesFrom text at (parts_from next (lines_pieces ls)) e) end first)

-- the text of lines has the tokens of their pieces
pub lines_printed : (ls : List Line) → AreLines ls → length (spelled (lines_pieces ls)) ≤ MAX_LEN → Lexes (spelled (lines_pieces ls)) (parts_from 0 (lines_pieces ls))
lines_printed ls good within =
    let text = spelled (lines_pieces ls) in
    record {
      is_text = record { within = within; utf8 = lines_utf8 ls good };
      tokens = subst (LexesFrom text 0 (parts_from 0 (lines_pieces ls))) (omega arith) (lines_lex ls good text 0 (drop_at [] text 0 refl));
    }
