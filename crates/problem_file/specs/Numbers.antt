-- The numbers among the tokens of an item.
use Rattle.std.specs.Prelude.{◌<◌, ◌-◌, List, [], ◌∷◌, length, take, if◌then◌else◌, nat_lt, Result, Ok, Err}
use Rattle.kat_model.specs.declared.expression.Width.{Width}
use Rattle.kat_model.specs.Stores.{modulus}
use Rattle.text_parser.specs.declared.fault.TextFault.{TextFault}
use Rattle.text_parser.specs.declared.fault.TextFault.TheVariants.{NumberTooWide}
use Rattle.text_parser.specs.declared.terminal.Terminal.TheVariants.{Number, WideNumber}
use Rattle.text_parser.specs.Lexemes.{Lexeme, lexeme}
use Rattle.text_parser.specs.Parsed.{◌>>=◌}

-- the tokens before `rest`
abbrev pub until : List Lexeme → List Lexeme → List Lexeme
until ts rest = take (length ts - length rest) ts

-- the token is not a number of 2 to the width or more; `0` and `1` always satisfy this
abbrev pub IsNarrow : Width → Lexeme → Type 0
IsNarrow w (lexeme (Number n) at text) = n < modulus w
IsNarrow w (lexeme WideNumber at text) = ⊥
IsNarrow w (lexeme s at text) = Unit {0}

abbrev pub AreNarrow : Width → List Lexeme → Type 0
AreNarrow w [] = Unit {0}
AreNarrow w (t ∷ ts) = IsNarrow w t × AreNarrow w ts

-- the fault of a token that is a number of 2 to the width or more
abbrev pub check_number : Width → Lexeme → Result (Unit {0}) TextFault
check_number w (lexeme (Number n) at text) = if nat_lt n (modulus w) then Ok tt else Err (NumberTooWide at)
check_number w (lexeme WideNumber at text) = Err (NumberTooWide at)
check_number w (lexeme s at text) = Ok tt

-- the fault of the first such token
abbrev pub check_numbers : Width → List Lexeme → Result (Unit {0}) TextFault
check_numbers w [] = Ok tt
check_numbers w (t ∷ ts) = check_number w t >>= λ u. check_numbers w ts
