-- The plainest texts of a goal about two programs over variables, and of a triple of one program, such as `width 8; var
-- x0; prog P { x0 := 1; } prog Q { skip; } goal equal P, Q;`, with one item a line; and the text of one program over
-- variables of any names.
use Rattle.std.specs.Prelude.{◌≡◌, ◌≤◌, ◌<◌, ◌+◌, ℕ, List, [], ◌++◌, length, map, codes}
use Rattle.std.specs.List.{range_with_len}
use Rattle.std.specs.Fmt.{decimal}
use Rattle.kat_model.specs.declared.limits.TheConstants.{MAX_EXPR_NODES, MAX_TERM_NODES, MAX_OPEN, MAX_TEXT_BYTES, MAX_VARS}
use Rattle.kat_model.specs.declared.expression.Width.{Width}
use Rattle.kat_model.specs.declared.expression.Width.TheVariants.{W8, W16, W32, W64}
use Rattle.kat_model.specs.Expressions.{CondTree}
use Rattle.text_parser.specs.Pieces.{spelled}
use Rattle.text_parser.specs.declared.meaning.Meaning.{Meaning}
use Rattle.text_parser.specs.declared.meaning.Meaning.TheVariants.{Var}
use Rattle.text_parser.specs.ScopeParts.{IsIdentifier}
use Rattle.text_parser.specs.Sizes.{cond_size, largest_expr}
use Rattle.text_print.specs.Printing.{cond_text, cond_nesting}
use Rattle.while_lang.specs.Programs.{ProgTree}
use Rattle.while_lang.specs.ProgramSizes.{prog_size, largest_in}
use Rattle.while_lang.specs.ProgramPrinting.{block_pieces, block_levels}
use Rattle.while_lang.specs.Ranges.{IsCondInRange, IsProgInRange}
use Rattle.problem_file.specs.Questions.{declaration_text}
use Rattle.problem_file.specs.ProgramNumbers.{CondIsNarrow, ProgIsNarrow}

-- ---- texts, where each meaning has a name

abbrev pub width_text : Width → List ℕ
width_text W8 = codes "width 8;\n"
width_text W16 = codes "width 16;\n"
width_text W32 = codes "width 32;\n"
width_text W64 = codes "width 64;\n"

-- `var x0, x1;` for `n` variables, or empty if there are none
abbrev pub vars_text : (Meaning → List ℕ) → ℕ → List ℕ
vars_text names n = declaration_text (codes "var") (map (λ k. names (Var k)) (range_with_len 0 n))

-- `prog NAME BLOCK`
abbrev pub prog_text : (Meaning → List ℕ) → List ℕ → ProgTree → List ℕ
prog_text names name p = codes "prog " ++ name ++ codes " " ++ spelled (block_pieces names p []) ++ codes "\n"

-- `goal equal NAME, NAME;`
abbrev pub equal_text : List ℕ → List ℕ → List ℕ
equal_text left right = codes "goal equal " ++ left ++ codes ", " ++ right ++ codes ";\n"

-- the text of one program of width `w` over `v` variables, with the goal that it equals itself
abbrev pub one_program_text : (Meaning → List ℕ) → Width → ℕ → List ℕ → ProgTree → List ℕ
one_program_text names w v name p = width_text w ++ vars_text names v ++ prog_text names name p ++ equal_text name name

-- ---- the plainest texts

-- variables are named x0, x1, .. by their numbers
abbrev pub var_name : Meaning → List ℕ
var_name (Var k) = codes "x" ++ decimal k
var_name _ = []

-- the text with the goal that two programs of width `w` over `v` variables are equal
abbrev pub programs_text : Width → ℕ → ProgTree → ProgTree → List ℕ
programs_text w v p q =
    width_text w ++ vars_text var_name v ++ prog_text var_name (codes "P") p ++ prog_text var_name (codes "Q") q ++ codes "goal equal P, Q;\n"

-- the text with a triple of one program as its goal
abbrev pub triple_text : Width → ℕ → CondTree → ProgTree → CondTree → List ℕ
triple_text w v b p c =
    width_text w ++ vars_text var_name v ++ prog_text var_name (codes "P") p ++ codes "goal triple {" ++ cond_text var_name b ++ codes "} P {" ++ cond_text var_name c ++ codes "};\n"

-- ---- limits

-- the program has no named test, no action and only the first `v` variables; its numbers are below 2 to the width; and
-- it is within the limits of a text on nodes in an expression, on nodes, and on open constructs
pub record IsProgPrintable (w : Width) (v : ℕ) (p : ProgTree) : Type 0 where
  pub in_range : IsProgInRange 0 0 v p
  pub narrow : ProgIsNarrow w p
  pub small_exprs : largest_in p ≤ MAX_EXPR_NODES
  pub small : prog_size p ≤ MAX_TERM_NODES
  pub shallow : block_levels p ≤ MAX_OPEN

-- likewise for a condition, which is in braces
pub record IsCondPrintable (w : Width) (v : ℕ) (b : CondTree) : Type 0 where
  pub in_range : IsCondInRange 0 v b
  pub narrow : CondIsNarrow w b
  pub small_exprs : largest_expr b ≤ MAX_EXPR_NODES
  pub small : cond_size b ≤ MAX_TERM_NODES
  pub shallow : 1 + cond_nesting b ≤ MAX_OPEN

-- each of the `v` variables has an identifier as its name, and no two have the same name
pub record AreVarNames (names : Meaning → List ℕ) (v : ℕ) : Type 0 where
  pub identifiers : (k : ℕ) → k < v → IsIdentifier (names (Var k))
  pub apart : (j k : ℕ) → j < v → k < v → names (Var j) ≡ names (Var k) → j ≡ k

-- a program of at most `MAX_VARS` variables with such names, under a name that differs from theirs; its text is within
-- the limit on bytes
pub record IsOnePrintable (names : Meaning → List ℕ) (w : Width) (v : ℕ) (name : List ℕ) (p : ProgTree) : Type 0 where
  pub vars : v ≤ MAX_VARS
  pub var_names : AreVarNames names v
  pub identifier : IsIdentifier name
  pub no_var : (k : ℕ) → k < v → names (Var k) ≡ name → ⊥
  pub program : IsProgPrintable w v p
  pub short : length (one_program_text names w v name p) ≤ MAX_TEXT_BYTES

-- two programs of at most `MAX_VARS` variables, with a plainest text within the limit on bytes
pub record ArePrintable (w : Width) (v : ℕ) (p q : ProgTree) : Type 0 where
  pub vars : v ≤ MAX_VARS
  pub left : IsProgPrintable w v p
  pub right : IsProgPrintable w v q
  pub short : length (programs_text w v p q) ≤ MAX_TEXT_BYTES

-- likewise for a triple of one program
pub record IsTriplePrintable (w : Width) (v : ℕ) (b : CondTree) (p : ProgTree) (c : CondTree) : Type 0 where
  pub vars : v ≤ MAX_VARS
  pub pre : IsCondPrintable w v b
  pub body : IsProgPrintable w v p
  pub post : IsCondPrintable w v c
  pub short : length (triple_text w v b p c) ≤ MAX_TEXT_BYTES
