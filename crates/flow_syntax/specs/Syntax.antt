-- Flow files as they are spelled, with the tokens by which they name things.
use Rattle.std.specs.Prelude.{ℕ, Bool, List, Option}
use Rattle.text_parser.specs.TokenParts.{TokenParts}

-- the first name or conversion in an expression that is in no argument and under no conversion
pub data FirstSyntax : Type 0 where
  no_name : FirstSyntax
  a_name : (t : TokenParts) → FirstSyntax
  a_conversion : (word : TokenParts) → FirstSyntax

-- a node of an expression; a call has the number of its arguments, a conversion the first name in its operand
pub data NodeSyntax : Type 0 where
  numeral : (t : TokenParts) → NodeSyntax
  named : (name : TokenParts) → NodeSyntax
  called : (name : TokenParts) → (count : ℕ) → NodeSyntax
  converted : (word : TokenParts) → (first : FirstSyntax) → NodeSyntax
  operation : (operator : TokenParts) → NodeSyntax

-- an expression in Polish notation: each node is before its operands
abbrev pub ExprSyntax : Type 0
ExprSyntax = List NodeSyntax

-- a node of a condition; a comparison has the token of its relation, a signed one that of its word, and both expressions
pub data CondNodeSyntax : Type 0 where
  always : CondNodeSyntax
  never : CondNodeSyntax
  compared : (relation : TokenParts) → (e f : ExprSyntax) → CondNodeSyntax
  compared_signed : (word : TokenParts) → (e f : ExprSyntax) → CondNodeSyntax
  negation : CondNodeSyntax
  both : CondNodeSyntax
  either : CondNodeSyntax

-- a condition in Polish notation
abbrev pub CondSyntax : Type 0
CondSyntax = List CondNodeSyntax

pub data StatementSyntax : Type 0 where
  assign : (targets : List TokenParts) → (becomes : TokenParts) → (es : List ExprSyntax) → StatementSyntax
  claim : (b : CondSyntax) → StatementSyntax

pub data JumpSyntax : Type 0 where
  goto : (block : TokenParts) → JumpSyntax
  branch : (b : CondSyntax) → (block other : TokenParts) → JumpSyntax
  return : (word : TokenParts) → (es : List ExprSyntax) → JumpSyntax
  abort : JumpSyntax

pub data BlockSyntax : Type 0 where
  a_block : (is_cut : Bool) → (name : TokenParts) → (statements : List StatementSyntax) → (jump : JumpSyntax) → BlockSyntax

-- a variable and an expression for its value
pub data EquationSyntax : Type 0 where
  equation : (variable : TokenParts) → (e : ExprSyntax) → EquationSyntax

-- a match of two blocks: the equations of `where`, of `back` and of `keeping`, and a condition, which is empty if it is not
-- given
pub record BlockMatchSyntax : Type 0 where
  pub before : TokenParts
  pub after : TokenParts
  pub forth : List EquationSyntax
  pub back : List EquationSyntax
  pub keeping : List EquationSyntax
  pub condition : CondSyntax
  pub rounds : Option TokenParts
  pub splits : Bool

-- what a `match` matches: each block with the block of the same name, or two blocks
pub data MatchSyntax : Type 0 where
  same_names : MatchSyntax
  two_blocks : (blocks : BlockMatchSyntax) → MatchSyntax

-- an item, with its keyword
pub data ItemSyntax : Type 0 where
  sorts : (word : TokenParts) → (names : List TokenParts) → ItemSyntax
  function : (word : TokenParts) → (result name : TokenParts) → (parameters : List TokenParts) → ItemSyntax
  variables : (word : TokenParts) → (sort : TokenParts) → (names : List TokenParts) → ItemSyntax
  graph : (word : TokenParts) → (name : TokenParts) → (blocks : List BlockSyntax) → ItemSyntax
  rounds : (word : TokenParts) → (number : TokenParts) → ItemSyntax
  split : (word : TokenParts) → ItemSyntax
  equal : (word : TokenParts) → (before after : TokenParts) → ItemSyntax
  matching : (word : TokenParts) → (m : MatchSyntax) → ItemSyntax
