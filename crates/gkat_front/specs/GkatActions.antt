-- Actions on the parts of an expression, called while it is read.
use Rattle.std.specs.Prelude.{ℕ, List, length, Result}
use Rattle.text_parser.specs.declared.fault.TextFault.{TextFault}
use Rattle.text_parser.specs.Lexemes.{Lexeme}
use Rattle.text_parser.specs.Parsed.{Parsed}
use Rattle.text_parser.proofs.Within.{Within}

-- C is the value of a condition, P of a product so far, and V of an expression. `cond` takes the number of open
-- constructs around the condition, and consumes tokens. `name` takes the place and the text of the name.
pub record GkatActions (C P V : Type 0) : Type 0 where
  pub cond : ℕ → List Lexeme → Parsed C
  pub shorter : (d : ℕ) (ts : List Lexeme) → Within (length ts) (cond d ts)
  pub never : V
  pub always : V
  pub name : ℕ → List ℕ → Result V TextFault
  pub test : C → V
  pub first : V → P
  pub more : P → V → P
  pub product : P → V
  pub choice : C → V → V → V
  pub loop : C → V → V
