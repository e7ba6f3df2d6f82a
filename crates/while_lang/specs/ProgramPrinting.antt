-- Printed programs: the pieces that spell them.
use Rattle.std.specs.Prelude.{◌+◌, max, ℕ, List, ◌∷◌, codes}
use Rattle.text_parser.specs.Pieces.{Piece, word, symbol, gap}
use Rattle.text_parser.specs.declared.meaning.Meaning.{Meaning}
use Rattle.text_parser.specs.declared.meaning.Meaning.TheVariants.{Action, Var}
use Rattle.text_parser.specs.ScopeParts.{ScopeParts, IsNameOf}
use Rattle.text_print.specs.Printing.{expr_pieces, cond_pieces, ExprIsNamed, CondIsNamed, expr_nesting, cond_nesting}
use Rattle.while_lang.specs.Programs.{ProgTree, empty, skip_then, abort_then, assert_then, act_then, assign_then, branch_then, loop_then}

-- a statement of one word, after a blank
abbrev pub word_pieces : List ℕ → List Piece → List Piece
word_pieces name ps = gap 32 ∷ word name ∷ symbol (codes ";") ∷ ps

-- a keyword with a blank on each side
abbrev pub keyword_pieces : List ℕ → List Piece → List Piece
keyword_pieces name ps = gap 32 ∷ word name ∷ gap 32 ∷ ps

-- the pieces in braces, with a blank before the closing brace
abbrev pub in_curly : (List Piece → List Piece) → List Piece → List Piece
in_curly inside ps = symbol (codes "{") ∷ inside (gap 32 ∷ symbol (codes "}") ∷ ps)

-- the pieces of statements, each after a blank, followed by `ps`; the second block of an `if` is always written
abbrev pub stmts_pieces : (Meaning → List ℕ) → ProgTree → List Piece → List Piece
stmts_pieces names empty ps = ps
stmts_pieces names (skip_then rest) ps = word_pieces (codes "skip") (stmts_pieces names rest ps)
stmts_pieces names (abort_then rest) ps = word_pieces (codes "abort") (stmts_pieces names rest ps)
stmts_pieces names (assert_then b rest) ps = keyword_pieces (codes "assert") (cond_pieces names b (symbol (codes ";") ∷ stmts_pieces names rest ps))
stmts_pieces names (act_then a rest) ps = word_pieces (names (Action a)) (stmts_pieces names rest ps)
stmts_pieces names (assign_then x e rest) ps =
    keyword_pieces (names (Var x)) (symbol (codes ":=") ∷ gap 32 ∷ expr_pieces names e (symbol (codes ";") ∷ stmts_pieces names rest ps))
stmts_pieces names (branch_then b p q rest) ps =
    keyword_pieces (codes "if") (cond_pieces names b (gap 32 ∷ in_curly (stmts_pieces names p)
    (keyword_pieces (codes "else") (in_curly (stmts_pieces names q) (stmts_pieces names rest ps)))))
stmts_pieces names (loop_then b p rest) ps =
    keyword_pieces (codes "while") (cond_pieces names b (gap 32 ∷ in_curly (stmts_pieces names p) (stmts_pieces names rest ps)))

-- the pieces of a block
abbrev pub block_pieces : (Meaning → List ℕ) → ProgTree → List Piece → List Piece
block_pieces names p ps = in_curly (stmts_pieces names p) ps

-- each action, variable and test of the program has its only name, and each number is below 2^64
abbrev pub ProgIsNamed : ScopeParts → (Meaning → List ℕ) → ProgTree → Type 0
ProgIsNamed w names empty = Unit {0}
ProgIsNamed w names (skip_then rest) = ProgIsNamed w names rest
ProgIsNamed w names (abort_then rest) = ProgIsNamed w names rest
ProgIsNamed w names (assert_then b rest) = CondIsNamed w names b × ProgIsNamed w names rest
ProgIsNamed w names (act_then a rest) = IsNameOf w (names (Action a)) (Action a) × ProgIsNamed w names rest
ProgIsNamed w names (assign_then x e rest) = IsNameOf w (names (Var x)) (Var x) × ExprIsNamed w names e × ProgIsNamed w names rest
ProgIsNamed w names (branch_then b p q rest) = CondIsNamed w names b × ProgIsNamed w names p × ProgIsNamed w names q × ProgIsNamed w names rest
ProgIsNamed w names (loop_then b p rest) = CondIsNamed w names b × ProgIsNamed w names p × ProgIsNamed w names rest

-- the maximum number of constructs open at one place, in the printed statements and in the printed block
abbrev pub stmts_nesting : ProgTree → ℕ
stmts_nesting empty = 0
stmts_nesting (skip_then rest) = stmts_nesting rest
stmts_nesting (abort_then rest) = stmts_nesting rest
stmts_nesting (assert_then b rest) = max (cond_nesting b) (stmts_nesting rest)
stmts_nesting (act_then a rest) = stmts_nesting rest
stmts_nesting (assign_then x e rest) = max (expr_nesting e) (stmts_nesting rest)
stmts_nesting (branch_then b p q rest) = max (max (cond_nesting b) (max (stmts_nesting p + 1) (stmts_nesting q + 1))) (stmts_nesting rest)
stmts_nesting (loop_then b p rest) = max (max (cond_nesting b) (stmts_nesting p + 1)) (stmts_nesting rest)

abbrev pub block_levels : ProgTree → ℕ
block_levels p = stmts_nesting p + 1
