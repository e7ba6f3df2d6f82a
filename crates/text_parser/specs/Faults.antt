-- The faults that the syntax check reports.
use Rattle.std.specs.Prelude.{◌≡◌, ◌⊎◌, ℕ, List, [], ◌∷◌, Bool, true, false, Result, Err}
use Rattle.text_parser.specs.declared.fault.TextFault.{TextFault}
use Rattle.text_parser.specs.declared.fault.TextFault.TheVariants.{Syntax, TooDeep, NumberTooWide}
use Rattle.text_parser.specs.declared.terminal.Terminal.{Terminal}
use Rattle.text_parser.specs.declared.terminal.Terminal.TheVariants.{RoundOpen, SquareOpen, Bang, WideNumber}
use Rattle.text_parser.specs.Lexemes.{Lexeme, lexeme}
use Rattle.text_parser.specs.Parsed.{at_end}

-- whether a terminal opens a construct
abbrev pub opens : Terminal → Bool
opens RoundOpen = true
opens SquareOpen = true
opens Bang = true
opens _ = false

-- whether a terminal is a number that is too wide
abbrev pub is_wide : Terminal → Bool
is_wide WideNumber = true
is_wide _ = false

-- a token of such a terminal is at the place
abbrev pub OccursAt : (Terminal → Bool) → ℕ → List Lexeme → Type 0
OccursAt p place [] = ⊥
OccursAt p place (lexeme s at text ∷ ts) = ((p s ≡ true) × (at ≡ place)) ⊎ OccursAt p place ts

-- a syntax fault: at a token, or after the last
abbrev pub IsSyntaxFault : List Lexeme → TextFault → Type 0
IsSyntaxFault ts (Syntax at) = (at ≡ at_end) ⊎ OccursAt (λ s. true) at ts
IsSyntaxFault ts (TooDeep at) = OccursAt opens at ts
IsSyntaxFault ts (NumberTooWide at) = OccursAt is_wide at ts
IsSyntaxFault ts other = ⊥

-- the check reports only syntax faults
abbrev pub AnswersFaults : (ℕ → List Lexeme → Result (List Lexeme) TextFault) → Type 0
AnswersFaults scan = (d : ℕ) (ts : List Lexeme) (e : TextFault) → scan d ts ≡ Err e → IsSyntaxFault ts e
