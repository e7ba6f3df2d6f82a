-- The blocks of statements, and the numbers in statements.
use Rattle.std.specs.Prelude.{ℕ, zero, suc, ◌<◌, List, [], ◌∷◌, Option, Some, None}
use Rattle.while_lang.specs.Files.{FileParts}
use Rattle.while_lang.specs.Ranges.{IsExprInRange, IsCondInRange, IsProgInRange}
use Rattle.while_lang.specs.Programs.{ProgTree, StmtTree, skip, abort, assert, act, assign, branch, loop, prog_of}

-- the block of a statement with this number: an `if` has blocks 0 and 1, a `while` has block 0
abbrev pub block : StmtTree → ℕ → Option ProgTree
block (branch b p q) zero = Some p
block (branch b p q) (suc zero) = Some q
block (loop b p) zero = Some p
block s j = None

-- the statement with that block replaced
abbrev pub with_block : StmtTree → ℕ → ProgTree → StmtTree
with_block (branch b p q) zero r = branch b r q
with_block (branch b p q) (suc zero) r = branch b p r
with_block (loop b p) zero r = loop b r
with_block s j r = s

-- the program of this statement only
abbrev pub single : StmtTree → ProgTree
single s = prog_of (s ∷ [])

-- each test, action and variable of the statement is declared in the file
abbrev pub IsStmtInRange : FileParts → StmtTree → Type 0
IsStmtInRange f skip = Unit {0}
IsStmtInRange f abort = Unit {0}
IsStmtInRange f (assert b) = IsCondInRange f.tests f.vars b
IsStmtInRange f (act a) = a < f.actions
IsStmtInRange f (assign x e) = (x < f.vars) × IsExprInRange f.vars e
IsStmtInRange f (branch b p q) = IsCondInRange f.tests f.vars b × IsProgInRange f.tests f.actions f.vars p × IsProgInRange f.tests f.actions f.vars q
IsStmtInRange f (loop b p) = IsCondInRange f.tests f.vars b × IsProgInRange f.tests f.actions f.vars p

abbrev pub AreStmtsInRange : FileParts → List StmtTree → Type 0
AreStmtsInRange f [] = Unit {0}
AreStmtsInRange f (s ∷ ss) = IsStmtInRange f s × AreStmtsInRange f ss
