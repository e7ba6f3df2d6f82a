-- The results of functions that append what they read to a list.
use Rattle.std.specs.Prelude.{◌≡◌, ℕ, List, drop, Result, Ok, Err}
use Rattle.text_parser.specs.declared.fault.TextFault.{TextFault}
use Rattle.text_parser.specs.declared.fault.TextFault.TheVariants.{NoMemory}
use Rattle.text_parser.specs.declared.terminal.Terminal.TheVariants.{Separator}
use Rattle.text_parser.specs.declared.terminal.Separator.TheVariants.{Semicolon}
use Rattle.text_parser.specs.Lexemes.{Lexeme, is_terminal}
use Rattle.text_parser.specs.Parsed.{Parsed, Expects, expects}

-- the index that the function returns and the list `s` that it leaves agree with `m`, or the fault does; `memory` holds
-- on `NoMemory`
abbrev pub Appends : {S : Type 0} → Type 0 → S → List Lexeme → Result ℕ TextFault → Parsed S → Type 0
Appends memory s ts (Ok i) m = m ≡ Ok (s, drop i ts)
Appends memory s ts (Err NoMemory) m = memory
Appends memory s ts (Err e) m = m ≡ Err e

-- after a statement was appended, the function returns the index after the semicolon that begins `us`; the fault of a
-- statement that was not appended remains
abbrev pub EndsAfter : List Lexeme → Result (Unit {0}) TextFault → Result ℕ TextFault → List Lexeme → Type 0
EndsAfter ts (Ok u) r us = Expects ts r (expects (is_terminal (Separator Semicolon)) us)
EndsAfter ts (Err e) r us = r ≡ Err e
