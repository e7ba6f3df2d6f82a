-- The faults that the syntax check of blocks reports.
use Rattle.std.specs.Prelude.{◌≡◌, ◌⊎◌, ℕ, List, Bool, true, ◌||◌, Err}
use Rattle.text_parser.specs.declared.fault.TextFault.{TextFault}
use Rattle.text_parser.specs.declared.fault.TextFault.TheVariants.{Syntax, TooDeep, NumberTooWide}
use Rattle.text_parser.specs.declared.terminal.Terminal.{Terminal}
use Rattle.text_parser.specs.declared.terminal.Terminal.TheVariants.{Keyword, Separator}
use Rattle.text_parser.specs.declared.terminal.Keyword.TheVariants as word
use Rattle.text_parser.specs.declared.terminal.Separator.TheVariants.{CurlyOpen}
use Rattle.text_parser.specs.Lexemes.{Lexeme, is_terminal}
use Rattle.text_parser.specs.Parsed.{at_end}
use Rattle.text_parser.specs.Faults.{opens, is_wide, OccursAt}
use Rattle.while_lang.specs.BlockScans.{scan_block}

-- whether a terminal opens a construct of a block: a brace, the `if` of an `else if`, or what opens a construct of a
-- condition or an expression
abbrev pub opens_block : Terminal → Bool
opens_block s = is_terminal (Separator CurlyOpen) s || (is_terminal (Keyword word.If) s || opens s)

-- a syntax fault: at a token, or after the last
abbrev pub IsBlockFault : List Lexeme → TextFault → Type 0
IsBlockFault ts (Syntax at) = (at ≡ at_end) ⊎ OccursAt (λ s. true) at ts
IsBlockFault ts (TooDeep at) = OccursAt opens_block at ts
IsBlockFault ts (NumberTooWide at) = OccursAt is_wide at ts
IsBlockFault ts other = ⊥

-- the check reports only syntax faults
abbrev pub AnswersBlockFaults : Type 0
AnswersBlockFaults = (d : ℕ) (ts : List Lexeme) (e : TextFault) → scan_block d ts ≡ Err e → IsBlockFault ts e
