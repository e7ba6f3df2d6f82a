-- Tokens that a lexer made.
use Rattle.std.specs.Prelude.{◌≡◌, ℕ, List, slice_get, Some}
use Rattle.text_parser.specs.declared.token.Token.{Token}
use Rattle.text_parser.specs.Kinds.{IsToken}

-- the text of each token is valid for its kind
abbrev pub AreTokens : List Token → Type 0
AreTokens ts = (i : ℕ) (t : Token) → slice_get ts i ≡ Some t → IsToken t.kind t.text.now
