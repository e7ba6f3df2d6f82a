-- While programs (Kozen 1997, 2000) as trees, without the lists and boxes of the program.
use Rattle.std.specs.Prelude.{ℕ, ◌+◌, List, [], ◌∷◌, Bool, true, false, ◌&&◌}
use Rattle.kat_model.specs.Expressions.{ExprTree, CondTree, always, never, named, compared, negation, both, either}

-- a list of statements: empty, or a first statement and the rest
pub data ProgTree : Type 0 where
  empty : ProgTree
  skip_then : (rest : ProgTree) → ProgTree
  abort_then : (rest : ProgTree) → ProgTree
  assert_then : (b : CondTree) (rest : ProgTree) → ProgTree
  act_then : (a : ℕ) (rest : ProgTree) → ProgTree
  assign_then : (x : ℕ) (e : ExprTree) (rest : ProgTree) → ProgTree
  branch_then : (b : CondTree) (p q rest : ProgTree) → ProgTree
  loop_then : (b : CondTree) (p rest : ProgTree) → ProgTree

-- a statement; `branch` is an `if` with two blocks, and `loop` is a `while`
pub data StmtTree : Type 0 where
  skip : StmtTree
  abort : StmtTree
  assert : (b : CondTree) → StmtTree
  act : (a : ℕ) → StmtTree
  assign : (x : ℕ) (e : ExprTree) → StmtTree
  branch : (b : CondTree) (p q : ProgTree) → StmtTree
  loop : (b : CondTree) (p : ProgTree) → StmtTree

-- a statement followed by the rest
abbrev pub with_stmt : StmtTree → ProgTree → ProgTree
with_stmt skip rest = skip_then rest
with_stmt abort rest = abort_then rest
with_stmt (assert b) rest = assert_then b rest
with_stmt (act a) rest = act_then a rest
with_stmt (assign x e) rest = assign_then x e rest
with_stmt (branch b p q) rest = branch_then b p q rest
with_stmt (loop b p) rest = loop_then b p rest

-- the program of a list of statements, and the list of statements of a program
abbrev pub prog_of : List StmtTree → ProgTree
prog_of [] = empty
prog_of (s ∷ ss) = with_stmt s (prog_of ss)

abbrev pub stmts_of : ProgTree → List StmtTree
stmts_of empty = []
stmts_of (skip_then rest) = skip ∷ stmts_of rest
stmts_of (abort_then rest) = abort ∷ stmts_of rest
stmts_of (assert_then b rest) = assert b ∷ stmts_of rest
stmts_of (act_then a rest) = act a ∷ stmts_of rest
stmts_of (assign_then x e rest) = assign x e ∷ stmts_of rest
stmts_of (branch_then b p q rest) = branch b p q ∷ stmts_of rest
stmts_of (loop_then b p rest) = loop b p ∷ stmts_of rest

-- the number of statements, including those of nested blocks
abbrev pub statements : ProgTree → ℕ
statements empty = 0
statements (skip_then rest) = statements rest + 1
statements (abort_then rest) = statements rest + 1
statements (assert_then b rest) = statements rest + 1
statements (act_then a rest) = statements rest + 1
statements (assign_then x e rest) = statements rest + 1
statements (branch_then b p q rest) = statements p + statements q + statements rest + 1
statements (loop_then b p rest) = statements p + statements rest + 1

-- whether the condition has no named test
abbrev pub is_concrete_cond : CondTree → Bool
is_concrete_cond always = true
is_concrete_cond never = true
is_concrete_cond (named k) = false
is_concrete_cond (compared rel e f) = true
is_concrete_cond (negation b) = is_concrete_cond b
is_concrete_cond (both b c) = is_concrete_cond b && is_concrete_cond c
is_concrete_cond (either b c) = is_concrete_cond b && is_concrete_cond c

-- whether the program has no named test and no named action
abbrev pub is_concrete : ProgTree → Bool
is_concrete empty = true
is_concrete (skip_then rest) = is_concrete rest
is_concrete (abort_then rest) = is_concrete rest
is_concrete (assert_then b rest) = is_concrete_cond b && is_concrete rest
is_concrete (act_then a rest) = false
is_concrete (assign_then x e rest) = is_concrete rest
is_concrete (branch_then b p q rest) = (is_concrete_cond b && (is_concrete p && is_concrete q)) && is_concrete rest
is_concrete (loop_then b p rest) = (is_concrete_cond b && is_concrete p) && is_concrete rest
