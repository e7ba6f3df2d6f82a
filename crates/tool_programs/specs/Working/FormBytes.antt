-- The number of bytes of the text of a form.
use Rattle.std.proofs.Common.{◌≡◌, ◌≤◌, ◌<◌, ◌+◌, ◌*◌, ◌^◌, ℕ, zero, suc, List, [], ◌∷◌, ◌++◌, length, map, refl, ap, ◌∙◌, arith, length-append, ltb-true}
use Rattle.std.proofs.Math.Nat.{mul-le-mul_left}
use Rattle.std.proofs.lemmas.List.{length-replicate}
use Rattle.std.proofs.lemmas.Fmt.{length-decimal-le}
use Rattle.std.specs.Prelude.{codes, flat_map}
use Rattle.std.specs.List.{range_with_len}
use Rattle.std.specs.Fmt.{decimal}
use Rattle.kat_model.specs.declared.limits.TheConstants.{MAX_VARS, MAX_TEXT_BYTES}
use Rattle.kat_model.specs.declared.expression.Rel.{Rel}
use Rattle.kat_model.specs.declared.expression.Rel.TheVariants.{Eq, Ne, Lt, Le, Gt, Ge}
use Rattle.kat_model.specs.declared.expression.Width.{Width}
use Rattle.kat_model.specs.declared.expression.Width.TheVariants.{W8, W16, W32, W64}
use Rattle.kat_model.specs.Expressions.{ExprTree, number, variable, plus, minus, times, CondTree, always, never, named, compared, negation, both, either}
use Rattle.kat_model.specs.Stores.{modulus}
use Rattle.text_parser.specs.Pieces.{Piece, symbol, gap, spelled}
use Rattle.text_parser.specs.declared.meaning.Meaning.{Meaning}
use Rattle.text_parser.specs.declared.meaning.Meaning.TheVariants.{Var}
use Rattle.text_parser.specs.ScopeParts.{ScopeParts, IsDeclared}
use Rattle.text_parser.specs.Sizes.{expr_size, cond_size}
use Rattle.text_print.specs.Printing.{relation_text, spaced, expr_pieces, cond_pieces}
use Rattle.while_lang.specs.Programs.{ProgTree, empty, skip_then, abort_then, assert_then, act_then, assign_then, branch_then, loop_then}
use Rattle.while_lang.specs.ProgramSizes.{prog_size}
use Rattle.while_lang.specs.ProgramPrinting.{keyword_pieces, in_curly, stmts_pieces, block_pieces}
use Rattle.while_lang.specs.Ranges.{IsExprInRange, IsCondInRange, IsProgInRange}
use Rattle.problem_file.specs.Questions.{declaration_text}
use Rattle.problem_file.specs.ProgramNumbers.{ExprIsNarrow, CondIsNarrow, ProgIsNarrow}
use Rattle.problem_file.specs.ProgramTexts.{width_text, vars_text, prog_text, equal_text, one_program_text}
use Rattle.problem_file.proofs.ProgramScopes.{below_64}
use Rattle.tool_programs.specs.OneLoop.{pc_name, IsCounterName}

-- ---- pieces

-- these pieces have at most n bytes more than those after them
abbrev Adds : ℕ → (List Piece → List Piece) → Type 0
Adds n pieces = (ps : List Piece) → length (spelled (pieces ps)) ≤ n + length (spelled ps)

spaced_adds : (m n : ℕ) (between : List ℕ) (left right : List Piece → List Piece) → length between ≤ 2 → Adds m left → Adds n right → Adds (m + n + 6) (spaced between left right)
spaced_adds m n between left right few l r ps =
    let end = symbol (codes ")") ∷ ps in
    let mid = right end in
    let first = l (gap 32 ∷ symbol between ∷ gap 32 ∷ mid) in
    omega (arith, first, r end, few, length-append between (32 ∷ spelled mid))

curly_adds : (n : ℕ) (inside : List Piece → List Piece) → Adds n inside → Adds (n + 3) (in_curly inside)
curly_adds n inside h ps = omega (arith, h (gap 32 ∷ symbol (codes "}") ∷ ps))

relation_short : (r : Rel) → length (relation_text r) ≤ 2
relation_short Eq = omega arith
relation_short Ne = omega arith
relation_short Lt = omega arith
relation_short Le = omega arith
relation_short Gt = omega arith
relation_short Ge = omega arith

twenty_digits : 2 ^ 64 < 10 ^ 20
twenty_digits = ltb-true (2 ^ 64) (10 ^ 20) refl

number_short : (w : Width) (n : ℕ) → n < modulus w → length (decimal n) ≤ 20
number_short w n lt =
    let small : n < 2 ^ 64 = below_64 w n lt in
    let few : n < 10 ^ 20 = omega (arith, small, twenty_digits) in
    length-decimal-le 20 n (omega arith) few small

-- a node has at most c bytes
module _ (names : Meaning → List ℕ) (w : Width) (v c : ℕ) (wide : 20 ≤ c) (short : (k : ℕ) → k < v → length (names (Var k)) + 20 ≤ c) where
  expr_adds : (e : ExprTree) → IsExprInRange v e → ExprIsNarrow w e → Adds (c * expr_size e) (expr_pieces names e)
  expr_adds (number n) is narrow ps = omega (arith, wide, length-append (decimal n) (spelled ps), number_short w n narrow)
  expr_adds (variable k) is narrow ps = omega (arith, length-append (names (Var k)) (spelled ps), short k is)
  expr_adds (plus e f) is narrow ps =
      omega (arith, wide, spaced_adds (c * expr_size e) (c * expr_size f) (codes "+") (expr_pieces names e) (expr_pieces names f) (omega arith) (expr_adds e is.0 narrow.0) (expr_adds f is.1 narrow.1) ps)
  expr_adds (minus e f) is narrow ps =
      omega (arith, wide, spaced_adds (c * expr_size e) (c * expr_size f) (codes "-") (expr_pieces names e) (expr_pieces names f) (omega arith) (expr_adds e is.0 narrow.0) (expr_adds f is.1 narrow.1) ps)
  expr_adds (times e f) is narrow ps =
      omega (arith, wide, spaced_adds (c * expr_size e) (c * expr_size f) (codes "*") (expr_pieces names e) (expr_pieces names f) (omega arith) (expr_adds e is.0 narrow.0) (expr_adds f is.1 narrow.1) ps)

  cond_adds : (b : CondTree) → IsCondInRange 0 v b → CondIsNarrow w b → Adds (c * cond_size b) (cond_pieces names b)
  cond_adds always is narrow ps = omega (arith, wide)
  cond_adds never is narrow ps = omega (arith, wide)
  cond_adds (named k) is narrow ps = absurd (omega (arith, is))
  cond_adds (compared r e f) is narrow ps =
      omega (arith, wide, spaced_adds (c * expr_size e) (c * expr_size f) (relation_text r) (expr_pieces names e) (expr_pieces names f) (relation_short r) (expr_adds e is.0 narrow.0) (expr_adds f is.1 narrow.1) ps)
  cond_adds (negation b) is narrow ps = omega (arith, wide, cond_adds b is narrow ps)
  cond_adds (both b d) is narrow ps =
      omega (arith, wide, spaced_adds (c * cond_size b) (c * cond_size d) (codes "&&") (cond_pieces names b) (cond_pieces names d) (omega arith) (cond_adds b is.0 narrow.0) (cond_adds d is.1 narrow.1) ps)
  cond_adds (either b d) is narrow ps =
      omega (arith, wide, spaced_adds (c * cond_size b) (c * cond_size d) (codes "||") (cond_pieces names b) (cond_pieces names d) (omega arith) (cond_adds b is.0 narrow.0) (cond_adds d is.1 narrow.1) ps)

  stmts_adds : (p : ProgTree) → IsProgInRange 0 0 v p → ProgIsNarrow w p → Adds (c * prog_size p) (stmts_pieces names p)
  stmts_adds empty is narrow ps = omega arith
  stmts_adds (skip_then rest) is narrow ps = omega (arith, wide, stmts_adds rest is narrow ps)
  stmts_adds (abort_then rest) is narrow ps = omega (arith, wide, stmts_adds rest is narrow ps)
  stmts_adds (assert_then b rest) is narrow ps =
      let tail = stmts_pieces names rest ps in
      omega (arith, wide, cond_adds b is.0 narrow.0 (symbol (codes ";") ∷ tail), stmts_adds rest is.1 narrow.1 ps)
  stmts_adds (act_then a rest) is narrow ps = absurd (omega (arith, is.0))
  stmts_adds (assign_then x e rest) is narrow ps =
      let tail = stmts_pieces names rest ps in
      let value = expr_pieces names e (symbol (codes ";") ∷ tail) in
      omega (arith, short x is.0, expr_adds e is.1 narrow.1 (symbol (codes ";") ∷ tail), stmts_adds rest is.2 narrow.2 ps, length-append (names (Var x)) (32 ∷ 58 ∷ 61 ∷ 32 ∷ spelled value))
  stmts_adds (branch_then b p q rest) is narrow ps =
      let tail = stmts_pieces names rest ps in
      let second = in_curly (stmts_pieces names q) tail in
      let after = in_curly (stmts_pieces names p) (keyword_pieces (codes "else") second) in
      let condition = cond_adds b is.0 narrow.0 (gap 32 ∷ after) in
      let one = curly_adds (c * prog_size p) (stmts_pieces names p) (stmts_adds p is.1 narrow.1) (keyword_pieces (codes "else") second) in
      let two = curly_adds (c * prog_size q) (stmts_pieces names q) (stmts_adds q is.2 narrow.2) tail in
      omega (arith, wide, condition, one, two, stmts_adds rest is.3 narrow.3 ps)
  stmts_adds (loop_then b p rest) is narrow ps =
      let tail = stmts_pieces names rest ps in
      let body = in_curly (stmts_pieces names p) tail in
      let condition = cond_adds b is.0 narrow.0 (gap 32 ∷ body) in
      let one = curly_adds (c * prog_size p) (stmts_pieces names p) (stmts_adds p is.1 narrow.1) tail in
      omega (arith, wide, condition, one, stmts_adds rest is.2 narrow.2 ps)

  prog_bytes : (name : List ℕ) (p : ProgTree) → IsProgInRange 0 0 v p → ProgIsNarrow w p → length (prog_text names name p) ≤ c * prog_size p + length name + 10
  prog_bytes name p is narrow =
      let block = spelled (block_pieces names p []) in
      let inside = curly_adds (c * prog_size p) (stmts_pieces names p) (stmts_adds p is narrow) [] in
      omega (arith, inside, length-append (name ++ codes " " ++ block) (codes "\n"), length-append (name ++ codes " ") block, length-append name (codes " "))

-- ---- declarations and the goal

-- each name has at most n bytes
abbrev AreShort : ℕ → List (List ℕ) → Type 0
AreShort n [] = Unit {0}
AreShort n (x ∷ xs) = (length x ≤ n) × AreShort n xs

later_bytes : (n : ℕ) (xs : List (List ℕ)) → AreShort n xs → length (flat_map (λ y. codes ", " ++ y) xs) ≤ (n + 2) * length xs
later_bytes n [] h = omega arith
later_bytes n (x ∷ xs) h = omega (arith, h.0, later_bytes n xs h.1, length-append x (flat_map (λ y. codes ", " ++ y) xs))

declaration_bytes : (n : ℕ) (xs : List (List ℕ)) → AreShort n xs → length (declaration_text (codes "var") xs) ≤ (n + 2) * length xs + 6
declaration_bytes n [] h = omega arith
declaration_bytes n (x ∷ xs) h =
    let later = flat_map (λ y. codes ", " ++ y) xs in
    omega (arith, h.0, later_bytes n xs h.1, length-append x later, length-append (x ++ later) (codes ";\n"))

vars_short : (names : Meaning → List ℕ) (n v : ℕ) → ((j : ℕ) → j < v → length (names (Var j)) ≤ n) → (k count : ℕ) → k + count ≤ v → AreShort n (map (λ j. names (Var j)) (range_with_len k count))
vars_short names n v h k zero le = tt
vars_short names n v h k (suc count) le = (h k (omega (arith, le)), vars_short names n v h (k + 1) count (omega (arith, le)))

length-names : (f : ℕ → List ℕ) (k n : ℕ) → length (map f (range_with_len k n)) ≡ n
length-names f k zero = refl
length-names f k (suc n) = omega (arith, length-names f (k + 1) n)

vars_bytes : (names : Meaning → List ℕ) (n v : ℕ) → ((j : ℕ) → j < v → length (names (Var j)) ≤ n) → length (vars_text names v) ≤ (n + 2) * v + 6
vars_bytes names n v h =
    let xs = map (λ j. names (Var j)) (range_with_len 0 v) in
    let bytes = declaration_bytes n xs (vars_short names n v h 0 v (omega arith)) in
    let count : length xs ≡ v = length-names (λ j. names (Var j)) 0 v in
    counted (length xs) count bytes
  where
    counted : (k : ℕ) → k ≡ v → length (vars_text names v) ≤ (n + 2) * k + 6 → length (vars_text names v) ≤ (n + 2) * v + 6
    counted k e le = rw e at le

width_bytes : (w : Width) → length (width_text w) ≤ 10
width_bytes W8 = omega arith
width_bytes W16 = omega arith
width_bytes W32 = omega arith
width_bytes W64 = omega arith

equal_bytes : (left right : List ℕ) → length (equal_text left right) ≡ length left + length right + 15
equal_bytes left right =
    omega (arith, length-append (left ++ codes ", " ++ right) (codes ";\n"), length-append (left ++ codes ", ") right, length-append left (codes ", "))

-- ---- the text

-- the text of a program of at most `size` nodes, with names of at most n bytes
pub text_bytes : (names : Meaning → List ℕ) (w : Width) (n v size : ℕ) (name : List ℕ) (p : ProgTree) → v ≤ MAX_VARS → length name ≤ n → ((k : ℕ) → k < v → length (names (Var k)) ≤ n)
    → IsProgInRange 0 0 v p → ProgIsNarrow w p → prog_size p ≤ size → (n + 20) * (size + 67) ≤ MAX_TEXT_BYTES → length (one_program_text names w v name p) ≤ MAX_TEXT_BYTES
text_bytes names w n v size name p few fits short is narrow small within =
    let front = width_text w in
    let vars = vars_text names v in
    let prog = prog_text names name p in
    let goal = equal_text name name in
    let all : length (one_program_text names w v name p) ≡ length front + length vars + length prog + length goal =
    omega (arith, length-append (front ++ vars ++ prog) goal, length-append (front ++ vars) prog, length-append front vars) in
    let most : (n + 2) * v ≤ (n + 2) * MAX_VARS = mul-le-mul_left (n + 2) few in
    let nodes : (n + 20) * prog_size p ≤ (n + 20) * size = mul-le-mul_left (n + 20) small in
    let body = prog_bytes names w v (n + 20) (omega arith) (λ k lt. omega (arith, short k lt)) name p is narrow in
    omega (arith, all, width_bytes w, vars_bytes names n v short, equal_bytes name name, most, nodes, body, fits, within)

-- ---- the counter

length-pc_name : (n : ℕ) → length (pc_name n) ≡ n + 2
length-pc_name n = omega (arith, length-replicate {A = ℕ} n 95)

-- the counter has at most two bytes more than the longest name
pub counter_short : (w : ScopeParts) (name : List ℕ) → IsCounterName w name → (longest : ℕ) → ((word : List ℕ) → IsDeclared w word → length word ≤ longest) → length name ≤ longest + 2
counter_short w name is longest short = bounded is.bars (ap (λ (l : List ℕ). length l) is.spelled ∙ length-pc_name is.bars) is.fewest
  where
    bounded : (n : ℕ) → length name ≡ n + 2 → ((k : ℕ) → k < n → IsDeclared w (pc_name k)) → length name ≤ longest + 2
    bounded zero e fewest = omega (arith, e)
    bounded (suc n) e fewest = let before = short (pc_name n) (fewest n (omega arith)) in omega (arith, e, before, length-pc_name n)
