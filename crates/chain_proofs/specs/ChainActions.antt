-- Actions on the parts of a chain, called while it is read.
use Rattle.std.specs.Prelude.{ℕ, ◌<◌, List, length, Option, Result, Ok, Err}
use Rattle.text_parser.specs.declared.fault.TextFault.{TextFault}
use Rattle.text_parser.specs.Lexemes.{Lexeme}
use Rattle.text_parser.specs.Parsed.{Parsed}

-- the rest is shorter than the tokens
abbrev pub LeavesFewer : {V : Type 0} → List Lexeme → Parsed V → Type 0
LeavesFewer ts (Ok x) = length x.1 < length ts
LeavesFewer ts (Err e) = Unit {0}

-- Z is the state after the terms so far, T the value of a term, R of a rule, P of a path so far, and V of a chain so
-- far. `term` takes the number of open constructs around the term. `rule` takes the place and the text of the name and
-- the number after it, or 0 without a number.
pub record ChainActions (Z T R P V : Type 0) : Type 0 where
  pub term : ℕ → Z → List Lexeme → Parsed (T × Z)
  pub shorter : (d : ℕ) (z : Z) (ts : List Lexeme) → LeavesFewer ts (term d z ts)
  pub rule : ℕ → List ℕ → ℕ → Result R TextFault
  pub whole : P
  pub part : P → ℕ → P
  pub first : T → V
  pub line : V → T → R → P → Option V → V
