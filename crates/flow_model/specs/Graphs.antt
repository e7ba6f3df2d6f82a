-- Graphs of blocks and jumps.
use Rattle.std.specs.Prelude.{ℕ, Bool, List}
use Rattle.flow_model.specs.declared.sort.Sort.{Sort}
use Rattle.flow_model.specs.Expressions.{ExprTree}
use Rattle.flow_model.specs.Conditions.{CondTree}

-- an assignment of several variables at once, or an assertion
pub data StatementTree : Type 0 where
  assign : (targets : List ℕ) → (values : List ExprTree) → StatementTree
  claim : (b : CondTree) → StatementTree

-- how a block ends; blocks are numbered in the order of the graph
pub data JumpTree : Type 0 where
  goto : (block : ℕ) → JumpTree
  branch : (b : CondTree) → (block other : ℕ) → JumpTree
  return : (results : List ExprTree) → JumpTree
  abort : JumpTree

-- a block, with its mark as a cut, which has no meaning in runs
pub record Block : Type 0 where
  pub is_cut : Bool
  pub statements : List StatementTree
  pub jump : JumpTree

-- a graph: its blocks, the entry first
abbrev pub Graph : Type 0
Graph = List Block

-- two graphs over the same variables, and the sorts of the variables
pub record Pair : Type 0 where
  pub sorts : List Sort
  pub before : Graph
  pub after : Graph
