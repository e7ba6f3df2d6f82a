-- Printed terms, conditions and expressions: their texts and the pieces that spell them.
use Rattle.std.specs.Prelude.{◌+◌, ◌<◌, ◌^◌, max, ℕ, List, [], ◌∷◌, ◌++◌, codes, Bool, true, false, if◌then◌else◌, Option, Some, None}
use Rattle.std.specs.Fmt.{decimal}
use Rattle.std.specs.Ordering.{eq_by_cmp}
use Rattle.std.specs.FinMap.{keys}
use Rattle.kat_model.specs.declared.expression.Rel.{Rel}
use Rattle.kat_model.specs.declared.expression.Rel.TheVariants.{Eq, Ne, Lt, Le, Gt, Ge}
use Rattle.kat_model.specs.Trees.{TestTree, bottom, top, prim, complement, meet, join, Term, zero, one, test, act, sum, product, star}
use Rattle.kat_model.specs.Expressions.{ExprTree, number, variable, plus, minus, times, CondTree, always, never, named, compared, negation, both, either}
use Rattle.text_parser.specs.Pieces.{Piece, word, numeral, symbol, gap}
use Rattle.text_parser.specs.declared.meaning.Meaning.{Meaning}
use Rattle.text_parser.specs.declared.meaning.Meaning.TheVariants.{Test, Action, Var}
use Rattle.text_parser.specs.contracts.meaning.MeaningOrd.TheImpl.{ghosts}
use Rattle.text_parser.specs.ScopeParts.{ScopeParts, meaning, IsNameOf}

-- whether the meaning exists and equals `m`
abbrev pub is_meant : Meaning → Option Meaning → Bool
is_meant m None = false
is_meant m (Some n) = eq_by_cmp ghosts.cmp m n

-- the first name in the list that denotes `m`, or empty
abbrev pub first_name : ScopeParts → Meaning → List (List ℕ) → List ℕ
first_name w m [] = []
first_name w m (name ∷ names) = if is_meant m (meaning w name) then name else first_name w m names

-- the name that denotes `m`, or empty
abbrev pub name_of : ScopeParts → Meaning → List ℕ
name_of w m = first_name w m (keys w.meanings)

-- the symbol of a relation
abbrev pub relation_text : Rel → List ℕ
relation_text Eq = codes "=="
relation_text Ne = codes "!="
relation_text Lt = codes "<"
relation_text Le = codes "<="
relation_text Gt = codes ">"
relation_text Ge = codes ">="

-- the test as a condition
abbrev pub cond_of : TestTree → CondTree
cond_of bottom = never
cond_of top = always
cond_of (prim k) = named k
cond_of (complement b) = negation (cond_of b)
cond_of (meet b c) = both (cond_of b) (cond_of c)
cond_of (join b c) = either (cond_of b) (cond_of c)

-- whether the term is a star
abbrev pub is_star : Term → Bool
is_star (star e) = true
is_star _ = false

-- ---- texts, where each meaning has a name

-- the text of an expression
abbrev pub expr_text : (Meaning → List ℕ) → ExprTree → List ℕ
expr_text names (number n) = decimal n
expr_text names (variable k) = names (Var k)
expr_text names (plus e f) = codes "(" ++ expr_text names e ++ codes " + " ++ expr_text names f ++ codes ")"
expr_text names (minus e f) = codes "(" ++ expr_text names e ++ codes " - " ++ expr_text names f ++ codes ")"
expr_text names (times e f) = codes "(" ++ expr_text names e ++ codes " * " ++ expr_text names f ++ codes ")"

-- the text of a condition
abbrev pub cond_text : (Meaning → List ℕ) → CondTree → List ℕ
cond_text names always = codes "true"
cond_text names never = codes "false"
cond_text names (named k) = names (Test k)
cond_text names (compared r e f) = codes "(" ++ expr_text names e ++ codes " " ++ relation_text r ++ codes " " ++ expr_text names f ++ codes ")"
cond_text names (negation b) = codes "!" ++ cond_text names b
cond_text names (both b c) = codes "(" ++ cond_text names b ++ codes " && " ++ cond_text names c ++ codes ")"
cond_text names (either b c) = codes "(" ++ cond_text names b ++ codes " || " ++ cond_text names c ++ codes ")"

-- the text of a test as a term: its name, or its condition in brackets
abbrev pub test_text : (Meaning → List ℕ) → TestTree → List ℕ
test_text names (prim k) = names (Test k)
test_text names b = codes "[" ++ cond_text names (cond_of b) ++ codes "]"

-- the text of a term
abbrev pub term_text : (Meaning → List ℕ) → Term → List ℕ
term_text names zero = codes "0"
term_text names one = codes "1"
term_text names (test b) = test_text names b
term_text names (act a) = names (Action a)
term_text names (sum e f) = codes "(" ++ term_text names e ++ codes " + " ++ term_text names f ++ codes ")"
term_text names (product e f) = codes "(" ++ term_text names e ++ codes "." ++ term_text names f ++ codes ")"
term_text names (star e) = if is_star e then codes "(" ++ term_text names e ++ codes ")*" else term_text names e ++ codes "*"

-- ---- the same as pieces, followed by the pieces `ps`

-- the pieces in parentheses
abbrev pub in_round : (List Piece → List Piece) → List Piece → List Piece
in_round inside ps = symbol (codes "(") ∷ inside (symbol (codes ")") ∷ ps)

-- two phrases in parentheses, with a symbol between them and a blank on each side of it
abbrev pub spaced : List ℕ → (List Piece → List Piece) → (List Piece → List Piece) → List Piece → List Piece
spaced between left right ps = symbol (codes "(") ∷ left (gap 32 ∷ symbol between ∷ gap 32 ∷ right (symbol (codes ")") ∷ ps))

-- the pieces of an expression
abbrev pub expr_pieces : (Meaning → List ℕ) → ExprTree → List Piece → List Piece
expr_pieces names (number n) ps = numeral (decimal n) ∷ ps
expr_pieces names (variable k) ps = word (names (Var k)) ∷ ps
expr_pieces names (plus e f) ps = spaced (codes "+") (expr_pieces names e) (expr_pieces names f) ps
expr_pieces names (minus e f) ps = spaced (codes "-") (expr_pieces names e) (expr_pieces names f) ps
expr_pieces names (times e f) ps = spaced (codes "*") (expr_pieces names e) (expr_pieces names f) ps

-- the pieces of a condition
abbrev pub cond_pieces : (Meaning → List ℕ) → CondTree → List Piece → List Piece
cond_pieces names always ps = word (codes "true") ∷ ps
cond_pieces names never ps = word (codes "false") ∷ ps
cond_pieces names (named k) ps = word (names (Test k)) ∷ ps
cond_pieces names (compared r e f) ps = spaced (relation_text r) (expr_pieces names e) (expr_pieces names f) ps
cond_pieces names (negation b) ps = symbol (codes "!") ∷ cond_pieces names b ps
cond_pieces names (both b c) ps = spaced (codes "&&") (cond_pieces names b) (cond_pieces names c) ps
cond_pieces names (either b c) ps = spaced (codes "||") (cond_pieces names b) (cond_pieces names c) ps

-- the pieces of a test as a term
abbrev pub test_pieces : (Meaning → List ℕ) → TestTree → List Piece → List Piece
test_pieces names (prim k) ps = word (names (Test k)) ∷ ps
test_pieces names b ps = symbol (codes "[") ∷ cond_pieces names (cond_of b) (symbol (codes "]") ∷ ps)

-- the pieces of a term
abbrev pub term_pieces : (Meaning → List ℕ) → Term → List Piece → List Piece
term_pieces names zero ps = numeral (codes "0") ∷ ps
term_pieces names one ps = numeral (codes "1") ∷ ps
term_pieces names (test b) ps = test_pieces names b ps
term_pieces names (act a) ps = word (names (Action a)) ∷ ps
term_pieces names (sum e f) ps = spaced (codes "+") (term_pieces names e) (term_pieces names f) ps
term_pieces names (product e f) ps = symbol (codes "(") ∷ term_pieces names e (symbol (codes ".") ∷ term_pieces names f (symbol (codes ")") ∷ ps))
term_pieces names (star e) ps = if is_star e then in_round (term_pieces names e) (symbol (codes "*") ∷ ps) else term_pieces names e (symbol (codes "*") ∷ ps)

-- ---- terms, conditions and expressions that read back

-- each variable of the expression has its only name, and each number is below 2^64
abbrev pub ExprIsNamed : ScopeParts → (Meaning → List ℕ) → ExprTree → Type 0
ExprIsNamed w names (number n) = n < 2 ^ 64
ExprIsNamed w names (variable k) = IsNameOf w (names (Var k)) (Var k)
ExprIsNamed w names (plus e f) = ExprIsNamed w names e × ExprIsNamed w names f
ExprIsNamed w names (minus e f) = ExprIsNamed w names e × ExprIsNamed w names f
ExprIsNamed w names (times e f) = ExprIsNamed w names e × ExprIsNamed w names f

-- likewise for a condition
abbrev pub CondIsNamed : ScopeParts → (Meaning → List ℕ) → CondTree → Type 0
CondIsNamed w names always = Unit {0}
CondIsNamed w names never = Unit {0}
CondIsNamed w names (named k) = IsNameOf w (names (Test k)) (Test k)
CondIsNamed w names (compared r e f) = ExprIsNamed w names e × ExprIsNamed w names f
CondIsNamed w names (negation b) = CondIsNamed w names b
CondIsNamed w names (both b c) = CondIsNamed w names b × CondIsNamed w names c
CondIsNamed w names (either b c) = CondIsNamed w names b × CondIsNamed w names c

-- likewise for a term
abbrev pub TermIsNamed : ScopeParts → (Meaning → List ℕ) → Term → Type 0
TermIsNamed w names zero = Unit {0}
TermIsNamed w names one = Unit {0}
TermIsNamed w names (test b) = CondIsNamed w names (cond_of b)
TermIsNamed w names (act a) = IsNameOf w (names (Action a)) (Action a)
TermIsNamed w names (sum e f) = TermIsNamed w names e × TermIsNamed w names f
TermIsNamed w names (product e f) = TermIsNamed w names e × TermIsNamed w names f
TermIsNamed w names (star e) = TermIsNamed w names e

-- the maximum number of constructs open at one place in the printed text of an expression
abbrev pub expr_nesting : ExprTree → ℕ
expr_nesting (number n) = 0
expr_nesting (variable k) = 0
expr_nesting (plus e f) = max (expr_nesting e) (expr_nesting f) + 1
expr_nesting (minus e f) = max (expr_nesting e) (expr_nesting f) + 1
expr_nesting (times e f) = max (expr_nesting e) (expr_nesting f) + 1

-- likewise for a condition
abbrev pub cond_nesting : CondTree → ℕ
cond_nesting always = 0
cond_nesting never = 0
cond_nesting (named k) = 0
cond_nesting (compared r e f) = max (expr_nesting e) (expr_nesting f) + 1
cond_nesting (negation b) = cond_nesting b + 1
cond_nesting (both b c) = max (cond_nesting b) (cond_nesting c) + 1
cond_nesting (either b c) = max (cond_nesting b) (cond_nesting c) + 1

-- likewise for a test as a term
abbrev pub test_nesting : TestTree → ℕ
test_nesting (prim k) = 0
test_nesting b = cond_nesting (cond_of b) + 1

-- likewise for a term
abbrev pub term_nesting : Term → ℕ
term_nesting zero = 0
term_nesting one = 0
term_nesting (test b) = test_nesting b
term_nesting (act a) = 0
term_nesting (sum e f) = max (term_nesting e) (term_nesting f) + 1
term_nesting (product e f) = max (term_nesting e) (term_nesting f) + 1
term_nesting (star e) = if is_star e then term_nesting e + 1 else term_nesting e
