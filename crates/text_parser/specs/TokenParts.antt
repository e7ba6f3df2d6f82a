-- Tokens as the definitions see them, without the addresses of their texts.
use Rattle.std.specs.Prelude.{ℕ, List, map}
use Rattle.text_parser.specs.declared.token.Kind.{Kind}
use Rattle.text_parser.specs.declared.token.Token.{Token}

-- a token: its kind, its place in bytes, and its bytes
pub data TokenParts : Type 0 where
  token_parts : (kind : Kind) → (place : ℕ) → (bytes : List ℕ) → TokenParts

-- the parts of a token
abbrev pub kind_of : TokenParts → Kind
kind_of (token_parts kind place bytes) = kind

abbrev pub place_of : TokenParts → ℕ
place_of (token_parts kind place bytes) = place

abbrev pub bytes_of : TokenParts → List ℕ
bytes_of (token_parts kind place bytes) = bytes

-- the `TokenParts` of a token
abbrev pub parts_of_token : Token → TokenParts
parts_of_token token = token_parts token.kind token.at token.text.now

-- the `TokenParts` of a list of tokens, in order
abbrev pub parts_of_tokens : List Token → List TokenParts
parts_of_tokens tokens = map parts_of_token tokens
