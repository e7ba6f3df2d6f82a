-- Printed expressions: their texts, and the pieces that spell the texts.
use Rattle.std.specs.Prelude.{◌+◌, max, ℕ, List, ◌∷◌, ◌++◌, codes, Bool, true, false, if◌then◌else◌}
use Rattle.kat_model.specs.Trees.{TestTree, bottom, top}
use Rattle.text_parser.specs.Pieces.{Piece, word, numeral, symbol, gap}
use Rattle.text_parser.specs.declared.meaning.Meaning.{Meaning}
use Rattle.text_parser.specs.declared.meaning.Meaning.TheVariants.{Action}
use Rattle.text_parser.specs.ScopeParts.{ScopeParts, IsNameOf}
use Rattle.text_print.specs.Printing.{cond_of, cond_text, test_text, cond_pieces, test_pieces, in_round, CondIsNamed, cond_nesting, test_nesting}
use Rattle.gkat_front.specs.Expressions.{GkatTree, test, act, product, choice, loop}

-- whether the expression is a loop
abbrev pub is_loop : GkatTree → Bool
is_loop (loop b e) = true
is_loop _ = false

-- ---- texts, with a name for each meaning

-- a test in brackets
abbrev pub guard_text : (Meaning → List ℕ) → TestTree → List ℕ
guard_text names b = codes "[" ++ cond_text names (cond_of b) ++ codes "]"

abbrev pub gkat_text : (Meaning → List ℕ) → GkatTree → List ℕ
gkat_text names (test bottom) = codes "0"
gkat_text names (test top) = codes "1"
gkat_text names (test b) = test_text names b
gkat_text names (act a) = names (Action a)
gkat_text names (product e f) = codes "(" ++ gkat_text names e ++ codes "." ++ gkat_text names f ++ codes ")"
gkat_text names (choice b e f) = codes "(" ++ gkat_text names e ++ codes " +" ++ guard_text names b ++ codes " " ++ gkat_text names f ++ codes ")"
gkat_text names (loop b e) =
    if is_loop e then codes "(" ++ gkat_text names e ++ codes ")^" ++ guard_text names b else gkat_text names e ++ codes "^" ++ guard_text names b

-- ---- the same as pieces, prepended to those that follow

abbrev pub guard_pieces : (Meaning → List ℕ) → TestTree → List Piece → List Piece
guard_pieces names b ps = symbol (codes "[") ∷ cond_pieces names (cond_of b) (symbol (codes "]") ∷ ps)

abbrev pub gkat_pieces : (Meaning → List ℕ) → GkatTree → List Piece → List Piece
gkat_pieces names (test bottom) ps = numeral (codes "0") ∷ ps
gkat_pieces names (test top) ps = numeral (codes "1") ∷ ps
gkat_pieces names (test b) ps = test_pieces names b ps
gkat_pieces names (act a) ps = word (names (Action a)) ∷ ps
gkat_pieces names (product e f) ps = symbol (codes "(") ∷ gkat_pieces names e (symbol (codes ".") ∷ gkat_pieces names f (symbol (codes ")") ∷ ps))
gkat_pieces names (choice b e f) ps =
    symbol (codes "(") ∷ gkat_pieces names e (gap 32 ∷ symbol (codes "+") ∷ guard_pieces names b (gap 32 ∷ gkat_pieces names f (symbol (codes ")") ∷ ps)))
gkat_pieces names (loop b e) ps =
    if is_loop e then in_round (gkat_pieces names e) (symbol (codes "^") ∷ guard_pieces names b ps) else gkat_pieces names e (symbol (codes "^") ∷ guard_pieces names b ps)

-- ---- conditions for reading back

-- each test and action of the expression has the name that `names` gives it
abbrev pub GkatIsNamed : ScopeParts → (Meaning → List ℕ) → GkatTree → Type 0
GkatIsNamed w names (test b) = CondIsNamed w names (cond_of b)
GkatIsNamed w names (act a) = IsNameOf w (names (Action a)) (Action a)
GkatIsNamed w names (product e f) = GkatIsNamed w names e × GkatIsNamed w names f
GkatIsNamed w names (choice b e f) = CondIsNamed w names (cond_of b) × GkatIsNamed w names e × GkatIsNamed w names f
GkatIsNamed w names (loop b e) = CondIsNamed w names (cond_of b) × GkatIsNamed w names e

-- the greatest number of constructs open at one place in the printed text of an expression
abbrev pub gkat_nesting : GkatTree → ℕ
gkat_nesting (test bottom) = 0
gkat_nesting (test top) = 0
gkat_nesting (test b) = test_nesting b
gkat_nesting (act a) = 0
gkat_nesting (product e f) = max (gkat_nesting e) (gkat_nesting f) + 1
gkat_nesting (choice b e f) = max (max (gkat_nesting e) (gkat_nesting f)) (cond_nesting (cond_of b) + 1) + 1
gkat_nesting (loop b e) = max (if is_loop e then gkat_nesting e + 1 else gkat_nesting e) (cond_nesting (cond_of b) + 1)
