-- The first fault of the bytes of a text, for any checks of its tokens.
use Rattle.std.specs.Prelude.{◌≡◌, ◌≤◌, ◌<◌, ℕ, min, List, length, map, Result, Ok, Err}
use Rattle.std.specs.Str.{IsValidUpTo}
use Rattle.text_parser.specs.declared.lexer.TheConstants.{MAX_LEN}
use Rattle.text_parser.specs.declared.fault.TextFault.{TextFault}
use Rattle.text_parser.specs.declared.fault.TextFault.TheVariants.{TooLong, NotUtf8, BadToken, Syntax}
use Rattle.text_parser.specs.TokenParts.{TokenParts}
use Rattle.text_parser.specs.Lex.{Lexes, FirstBad}
use Rattle.text_parser.specs.Lexemes.{Lexeme, lexeme_of}

-- a fault after the last token is placed at the length of the text
abbrev pub placed : ℕ → TextFault → TextFault
placed len (Syntax at) = Syntax (min at len)
placed len e = e

abbrev pub placing : {X : Type 0} → ℕ → Result X TextFault → Result X TextFault
placing len (Ok x) = Ok x
placing len (Err e) = Err (placed len e)

-- the bytes have tokens, and this is the first fault that the checks find in them
pub record Refuses {X : Type 0} (tested : List Lexeme → Result X TextFault) (bytes : List ℕ) (e : TextFault) : Type 0 where
  pub parts_of_tokens : List TokenParts
  pub lexes : Lexes bytes parts_of_tokens
  pub tests_fail : placing (length bytes) (tested (map lexeme_of parts_of_tokens)) ≡ Err e

-- the bytes are not a text, and this is their first fault
pub data IsNoText (bytes : List ℕ) (e : TextFault) : Type 0 where
  too_long : (given : e ≡ TooLong) → (past : MAX_LEN < length bytes) → IsNoText bytes e
  not_utf8 : (at : ℕ) → (given : e ≡ NotUtf8 at) → (within : length bytes ≤ MAX_LEN) → (front : IsValidUpTo bytes at) → IsNoText bytes e

-- the first fault of the bytes, in the order of refusals
pub data IsFirstFault {X : Type 0} (tested : List Lexeme → Result X TextFault) (bytes : List ℕ) (e : TextFault) : Type 0 where
  no_text : (no : IsNoText bytes e) → IsFirstFault tested bytes e
  bad_token : (at : ℕ) → (given : e ≡ BadToken at) → (bad : FirstBad bytes at) → IsFirstFault tested bytes e
  refused : (in_tokens : Refuses tested bytes e) → IsFirstFault tested bytes e
