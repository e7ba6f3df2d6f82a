-- While programs over named tests and actions (Kozen 1997) as trees, without the lists and boxes of the program.
use Rattle.std.specs.Prelude.{ℕ, ◌+◌, List, [], ◌∷◌}
use Rattle.kat_model.specs.Trees.{TestTree}

-- a list of statements: empty, or a first statement and the rest
pub data FlowTree : Type 0 where
  empty : FlowTree
  skip_then : (rest : FlowTree) → FlowTree
  abort_then : (rest : FlowTree) → FlowTree
  assert_then : (b : TestTree) (rest : FlowTree) → FlowTree
  act_then : (a : ℕ) (rest : FlowTree) → FlowTree
  branch_then : (b : TestTree) (f g rest : FlowTree) → FlowTree
  loop_then : (b : TestTree) (f rest : FlowTree) → FlowTree

-- a statement
pub data FlowStmt : Type 0 where
  skip : FlowStmt
  abort : FlowStmt
  assert : (b : TestTree) → FlowStmt
  act : (a : ℕ) → FlowStmt
  branch : (b : TestTree) (f g : FlowTree) → FlowStmt
  loop : (b : TestTree) (f : FlowTree) → FlowStmt

-- a statement followed by the rest
abbrev pub with_stmt : FlowStmt → FlowTree → FlowTree
with_stmt skip rest = skip_then rest
with_stmt abort rest = abort_then rest
with_stmt (assert b) rest = assert_then b rest
with_stmt (act a) rest = act_then a rest
with_stmt (branch b f g) rest = branch_then b f g rest
with_stmt (loop b f) rest = loop_then b f rest

-- the tree of a list of statements
abbrev pub flow_of : List FlowStmt → FlowTree
flow_of [] = empty
flow_of (s ∷ ss) = with_stmt s (flow_of ss)

-- the number of statements, including those of nested blocks
abbrev pub statements : FlowTree → ℕ
statements empty = 0
statements (skip_then rest) = statements rest + 1
statements (abort_then rest) = statements rest + 1
statements (assert_then b rest) = statements rest + 1
statements (act_then a rest) = statements rest + 1
statements (branch_then b f g rest) = statements f + statements g + statements rest + 1
statements (loop_then b f rest) = statements f + statements rest + 1
