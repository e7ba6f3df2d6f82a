-- Worked examples: small texts, their phrases and their readings. The definitions compute each; the expected values are
-- found by hand.
use Rattle.std.proofs.Common.{◌≡◌, ℕ, ◌+◌, List, [], ◌∷◌, ◌++◌, map, false, true, Ok, Err, refl}
use Rattle.std.specs.Prelude.{codes}
use Rattle.text_parser.specs.declared.fault.TextFault.TheVariants.{Syntax, TooDeep, NumberTooWide}
use Rattle.text_parser.specs.Pieces.{Piece, word, numeral, symbol, gap, parts_from}
use Rattle.text_parser.specs.declared.reading.Operator.{Operator}
use Rattle.text_parser.specs.declared.reading.Operator.TheVariants.{Add, Subtract, Multiply}
use Rattle.text_parser.specs.Lexemes.{Lexeme, lexeme_of}
use Rattle.text_parser.specs.Parsed.{at_end}
use Rattle.text_parser.specs.Actions.{ExprActions, context}
use Rattle.text_parser.specs.Exprs.{parse_expr, sums, expr_within}
use Rattle.text_parser.specs.Conds.{parse_cond, cond_within}
use Rattle.text_parser.specs.Terms.{parse_term, term_within}
use Rattle.text_parser.specs.Phrases.{Leaf, Phrase, term, one_prod, one_star, more_stars, bare, starred, name_unit, not_unit, yield_before}
use Rattle.text_parser.specs.Scans.{scan_term, scan_cond, scan_expr}

abbrev lexemes_of : List Piece → List Lexeme
lexemes_of ps = map lexeme_of (parts_from 0 ps)

abbrev leaf : ℕ → List ℕ → Leaf
leaf at text = record { at = at; text = text }

-- `!b*.p`: the star applies to `!b`

abbrev starred_text : List Piece
starred_text = symbol (codes "!") ∷ word (codes "b") ∷ symbol (codes "*") ∷ symbol (codes ".") ∷ word (codes "p") ∷ []

abbrev starred_phrase : Phrase term
starred_phrase = one_prod (more_stars (starred (not_unit (leaf 0 (codes "!")) (name_unit (leaf 1 (codes "b")))) (leaf 2 (codes "*"))) (leaf 3 (codes ".")) (one_star (bare (name_unit (leaf 4 (codes "p"))))))

starred_spelled : lexemes_of starred_text ≡ yield_before starred_phrase []
starred_spelled = refl

starred_scanned : scan_term 0 (lexemes_of starred_text) ≡ Ok []
unfolding parse_term term_within
starred_scanned = refl

-- `(b && c) + 1 == 2`: the parenthesis begins an expression, in which `&&` cannot occur
compared_scanned : scan_cond 0 (lexemes_of (symbol (codes "(") ∷ word (codes "b") ∷ gap 32 ∷ symbol (codes "&&") ∷ gap 32 ∷ word (codes "c") ∷ symbol (codes ")") ∷ gap 32 ∷ symbol (codes "+") ∷ gap 32 ∷ numeral (codes "1") ∷ gap 32 ∷ symbol (codes "==") ∷ gap 32 ∷ numeral (codes "2") ∷ [])) ≡ Err (Syntax 3)
unfolding parse_cond cond_within parse_expr expr_within
compared_scanned = refl

-- `(b && c) || b`: the parenthesis begins a condition
joined_scanned : scan_cond 0 (lexemes_of (symbol (codes "(") ∷ word (codes "b") ∷ gap 32 ∷ symbol (codes "&&") ∷ gap 32 ∷ word (codes "c") ∷ symbol (codes ")") ∷ gap 32 ∷ symbol (codes "||") ∷ gap 32 ∷ word (codes "b") ∷ [])) ≡ Ok []
unfolding parse_cond cond_within parse_expr expr_within
joined_scanned = refl

-- `(p)` within 199 and within 200 open constructs

abbrev enclosed_text : List Piece
enclosed_text = symbol (codes "(") ∷ word (codes "p") ∷ symbol (codes ")") ∷ []

deep_scanned : scan_term 199 (lexemes_of enclosed_text) ≡ Ok []
unfolding parse_term term_within
deep_scanned = refl

too_deep_scanned : scan_term 200 (lexemes_of enclosed_text) ≡ Err (TooDeep 0)
unfolding parse_term term_within
too_deep_scanned = refl

-- `x +` lacks a product, and 2^64 is too wide

unended_scanned : scan_expr 0 (lexemes_of (word (codes "x") ∷ symbol (codes "+") ∷ [])) ≡ Err (Syntax at_end)
unfolding parse_expr expr_within
unended_scanned = refl

wide_scanned : scan_expr 0 (lexemes_of (gap 32 ∷ numeral (codes "18446744073709551616") ∷ [])) ≡ Err (NumberTooWide 1)
unfolding parse_expr expr_within
wide_scanned = refl

-- `x-y-2*z`, read by actions that write each operation in parentheses: the operations group to the left. Numbers have
-- one digit here.

abbrev operator_text : Operator → List ℕ
operator_text Add = codes "+"
operator_text Subtract = codes "-"
operator_text Multiply = codes "*"

abbrev grouping : ExprActions (List ℕ)
grouping = record {
  number = λ c at n. Ok ((48 + n) ∷ []);
  variable = λ c at text. Ok text;
  join = λ o e f. codes "(" ++ e ++ operator_text o ++ f ++ codes ")";
  enclosed = λ e. e;
}

grouped_to_the_left : parse_expr grouping sums (context 0 false true) (lexemes_of (word (codes "x") ∷ symbol (codes "-") ∷ word (codes "y") ∷ symbol (codes "-") ∷ numeral (codes "2") ∷ symbol (codes "*") ∷ word (codes "z") ∷ [])) ≡ Ok (codes "((x-y)-(2*z))", [])
unfolding parse_expr expr_within
grouped_to_the_left = refl
