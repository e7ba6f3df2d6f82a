-- A text written in pieces: tokens and single separators.
use Rattle.std.specs.Prelude.{◌≡◌, ◌+◌, ℕ, List, [], ◌∷◌, ◌++◌, length, Bool, true, false, not, ◌&&◌, ◌||◌, ◌==◌, nat_lt}
use Rattle.std.specs.Char.{is_ascii_digit, is_ascii_alphanumeric}
use Rattle.text_parser.specs.declared.token.Kind.{Kind}
use Rattle.text_parser.specs.declared.token.Kind.TheVariants.{Name, Number, Symbol}
use Rattle.text_parser.specs.Kinds.{is_separator, is_symbol, IsToken}
use Rattle.text_parser.specs.TokenParts.{TokenParts, token_parts}

-- a piece: the bytes of a token, or one separator
pub data Piece : Type 0 where
  lexeme : (kind : Kind) → (bytes : List ℕ) → Piece
  gap : (b : ℕ) → Piece

-- a name, a number or a symbol
abbrev pub word : List ℕ → Piece
word bytes = lexeme Name bytes

abbrev pub numeral : List ℕ → Piece
numeral bytes = lexeme Number bytes

abbrev pub symbol : List ℕ → Piece
symbol bytes = lexeme Symbol bytes

-- the bytes of the pieces
abbrev pub spelled : List Piece → List ℕ
spelled [] = []
spelled (lexeme kind bytes ∷ ps) = bytes ++ spelled ps
spelled (gap b ∷ ps) = b ∷ spelled ps

-- the tokens of the pieces if the first piece begins at place `at`
abbrev pub parts_from : ℕ → List Piece → List TokenParts
parts_from at [] = []
parts_from at (lexeme kind bytes ∷ ps) = token_parts kind at bytes ∷ parts_from (at + length bytes) ps
parts_from at (gap b ∷ ps) = parts_from (at + 1) ps

-- whether `b` is an ASCII byte that does not continue a name
abbrev pub ends_name : ℕ → Bool
ends_name b = nat_lt b 128 && not (is_ascii_alphanumeric b || (b == 95))

-- the following bytes do not extend the token
abbrev pub EndsBefore : Kind → List ℕ → List ℕ → Type 0
EndsBefore kind bytes [] = Unit {0}
EndsBefore Name bytes (b ∷ bs) = ends_name b ≡ true
EndsBefore Number bytes (b ∷ bs) = is_ascii_digit b ≡ false
EndsBefore Symbol bytes (b ∷ bs) = is_symbol (bytes ++ b ∷ []) ≡ false

-- each piece is a separator or a token that the following pieces do not extend
abbrev pub AreSeparate : List Piece → Type 0
AreSeparate [] = Unit {0}
AreSeparate (lexeme kind bytes ∷ ps) = IsToken kind bytes × EndsBefore kind bytes (spelled ps) × AreSeparate ps
AreSeparate (gap b ∷ ps) = (is_separator b ≡ true) × AreSeparate ps
