-- Tokens as the grammar sees them.
use Rattle.std.specs.Prelude.{◌≡◌, ℕ, ◌+◌, ◌<◌, ◌≤◌, List, [], ◌∷◌, length, map, drop, Bool, true, false, Option, Some, None, slice_get, ◌==◌}
use Rattle.text_parser.specs.declared.token.Token.{Token}
use Rattle.text_parser.specs.TokenParts.{TokenParts, token_parts, parts_of_tokens}
use Rattle.text_parser.specs.declared.terminal.Terminal.{Terminal}
use Rattle.kat_model.specs.contracts.expression.RelPartialEq.TheImpl.{ghosts as relation}
use Rattle.text_parser.specs.contracts.terminal.KeywordPartialEq.TheImpl.{ghosts as word}
use Rattle.text_parser.specs.contracts.terminal.SeparatorPartialEq.TheImpl.{ghosts as separator}
use Rattle.text_parser.specs.declared.terminal.Terminal.TheVariants.{RoundOpen, RoundClose, SquareOpen, SquareClose, Bang, Star, Plus, Minus, Dot, And, Or, Compares, Zero, One, Number, WideNumber, True, False, Name, Keyword, Separator, Other}
use Rattle.text_parser.specs.Terminals.{terminal_of}

-- the terminal of a token, its place and its text
pub data Lexeme : Type 0 where
  lexeme : (terminal : Terminal) → (at : ℕ) → (text : List ℕ) → Lexeme

-- the lexeme of a token
abbrev pub lexeme_of : TokenParts → Lexeme
lexeme_of (token_parts kind at text) = lexeme (terminal_of kind text) at text

-- the lexemes of tokens, in order
abbrev pub lexemes : List Token → List Lexeme
lexemes ts = map lexeme_of (parts_of_tokens ts)

-- the text of the token at an index, or empty if there is no token
abbrev pub text_at : List Token → ℕ → List ℕ
text_at ts i = text_of (slice_get ts i) where
  text_of : Option Token → List ℕ
  text_of None = []
  text_of (Some t) = t.text.now

-- the result is the terminal and the place of the token at index `i`, or `None` if there is no token
abbrev pub Sees : Option (Terminal × ℕ) → List Token → ℕ → Type 0
Sees None ts i = (drop i (lexemes ts) ≡ []) × (length ts ≤ i)
Sees (Some x) ts i = (drop i (lexemes ts) ≡ lexeme x.0 x.1 (text_at ts i) ∷ drop (i + 1) (lexemes ts)) × (i < length ts)

-- whether the first token's terminal passes `p`
abbrev pub heads : (Terminal → Bool) → List Lexeme → Bool
heads p [] = false
heads p (lexeme s at text ∷ ts) = p s

-- whether two terminals are equal
abbrev pub is_terminal : Terminal → Terminal → Bool
is_terminal RoundOpen RoundOpen = true
is_terminal RoundClose RoundClose = true
is_terminal SquareOpen SquareOpen = true
is_terminal SquareClose SquareClose = true
is_terminal Bang Bang = true
is_terminal Star Star = true
is_terminal Plus Plus = true
is_terminal Minus Minus = true
is_terminal Dot Dot = true
is_terminal And And = true
is_terminal Or Or = true
is_terminal (Compares r) (Compares q) = relation.eq r q
is_terminal Zero Zero = true
is_terminal One One = true
is_terminal (Number n) (Number m) = n == m
is_terminal WideNumber WideNumber = true
is_terminal True True = true
is_terminal False False = true
is_terminal Name Name = true
is_terminal (Keyword k) (Keyword j) = word.eq k j
is_terminal (Separator p) (Separator q) = separator.eq p q
is_terminal Other Other = true
is_terminal _ _ = false

-- whether the terminal joins two products of an expression
abbrev pub is_sum : Terminal → Bool
is_sum Plus = true
is_sum Minus = true
is_sum _ = false

-- whether the terminal makes an expression of the name or parenthesis before it
abbrev pub makes_expr : Terminal → Bool
makes_expr Plus = true
makes_expr Minus = true
makes_expr Star = true
makes_expr (Compares r) = true
makes_expr _ = false
