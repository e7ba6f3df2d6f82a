-- Actions on the items of a text, called while it is read.
use Rattle.std.specs.Prelude.{ℕ, List, Result}
use Rattle.text_parser.specs.declared.fault.TextFault.{TextFault}
use Rattle.text_parser.specs.Lexemes.{Lexeme}
use Rattle.text_parser.specs.Parsed.{Parsed}

-- S is the state after the items so far, V the value of an expression. The number is the place of the declared name,
-- and otherwise the place of the keyword of the item.
pub record FileActions (S V : Type 0) : Type 0 where
  pub expr : S → List Lexeme → Parsed V
  pub declare_test : S → ℕ → List ℕ → Result S TextFault
  pub declare_action : S → ℕ → List ℕ → Result S TextFault
  pub begin_equal : S → ℕ → Result (Unit {0}) TextFault
  pub pose : S → ℕ → V → V → Result S TextFault
