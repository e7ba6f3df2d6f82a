-- The terminals of the grammar that tokens are.
use Rattle.std.specs.Prelude.{ℕ, ◌+◌, ◌-◌, ◌*◌, ◌^◌, List, [], ◌∷◌, length, Bool, false, not, ◌&&◌, if◌then◌else◌, nat_lt, codes, Option, Some, None}
use Rattle.std.specs.Str.{bytes_eq}
use Rattle.std.specs.List.{list_all}
use Rattle.std.specs.Char.{is_ascii_digit}
use Rattle.kat_model.specs.declared.expression.Rel.TheVariants.{Eq, Ne, Lt, Le, Gt, Ge}
use Rattle.text_parser.specs.declared.token.Kind.{Kind}
use Rattle.text_parser.specs.declared.token.Kind.TheVariants as kind
use Rattle.text_parser.specs.TokenParts.{TokenParts, token_parts}
use Rattle.text_parser.specs.declared.terminal.Keyword.TheVariants as word
use Rattle.text_parser.specs.declared.terminal.Separator.TheVariants.{Comma, Semicolon, CurlyOpen, CurlyClose, Equals, Becomes, Caret}
use Rattle.text_parser.specs.declared.terminal.Terminal.{Terminal}
use Rattle.text_parser.specs.declared.terminal.Terminal.TheVariants.{RoundOpen, RoundClose, SquareOpen, SquareClose, Bang, Star, Plus, Minus, Dot, And, Or, Compares, Zero, One, Number, WideNumber, True, False, Name, Keyword, Separator, Other}

-- the terminal of a symbol, by its text
abbrev pub symbol_terminal : List ℕ → Terminal
symbol_terminal text =
    if bytes_eq text (codes "(") then RoundOpen
    else if bytes_eq text (codes ")") then RoundClose
    else if bytes_eq text (codes "[") then SquareOpen
    else if bytes_eq text (codes "]") then SquareClose
    else if bytes_eq text (codes "!") then Bang
    else if bytes_eq text (codes "*") then Star
    else if bytes_eq text (codes "+") then Plus
    else if bytes_eq text (codes "-") then Minus
    else if bytes_eq text (codes ".") then Dot
    else if bytes_eq text (codes "&&") then And
    else if bytes_eq text (codes "||") then Or
    else if bytes_eq text (codes "==") then Compares Eq
    else if bytes_eq text (codes "!=") then Compares Ne
    else if bytes_eq text (codes "<") then Compares Lt
    else if bytes_eq text (codes "<=") then Compares Le
    else if bytes_eq text (codes ">") then Compares Gt
    else if bytes_eq text (codes ">=") then Compares Ge
    else if bytes_eq text (codes ",") then Separator Comma
    else if bytes_eq text (codes ";") then Separator Semicolon
    else if bytes_eq text (codes "{") then Separator CurlyOpen
    else if bytes_eq text (codes "}") then Separator CurlyClose
    else if bytes_eq text (codes "=") then Separator Equals
    else if bytes_eq text (codes ":=") then Separator Becomes
    else if bytes_eq text (codes "^") then Separator Caret
    else Other

-- the terminal of a keyword or a name
abbrev pub keyword_terminal : List ℕ → Terminal
keyword_terminal text =
    if bytes_eq text (codes "true") then True
    else if bytes_eq text (codes "false") then False
    else if bytes_eq text (codes "test") then Keyword word.Test
    else if bytes_eq text (codes "action") then Keyword word.Action
    else if bytes_eq text (codes "var") then Keyword word.Var
    else if bytes_eq text (codes "prog") then Keyword word.Prog
    else if bytes_eq text (codes "term") then Keyword word.Term
    else if bytes_eq text (codes "hyp") then Keyword word.Hyp
    else if bytes_eq text (codes "rounds") then Keyword word.Rounds
    else if bytes_eq text (codes "width") then Keyword word.Width
    else if bytes_eq text (codes "goal") then Keyword word.Goal
    else if bytes_eq text (codes "equal") then Keyword word.Equal
    else if bytes_eq text (codes "below") then Keyword word.Below
    else if bytes_eq text (codes "triple") then Keyword word.Triple
    else if bytes_eq text (codes "skip") then Keyword word.Skip
    else if bytes_eq text (codes "abort") then Keyword word.Abort
    else if bytes_eq text (codes "assert") then Keyword word.Assert
    else if bytes_eq text (codes "if") then Keyword word.If
    else if bytes_eq text (codes "else") then Keyword word.Else
    else if bytes_eq text (codes "while") then Keyword word.While
    else Name

-- the value of decimal digits that follow digits of value `n`
abbrev pub value_from : ℕ → List ℕ → ℕ
value_from n [] = n
value_from n (c ∷ cs) = value_from (10 * n + (c - 48)) cs

-- whether the text is a non-empty run of ASCII digits
abbrev pub is_digits : List ℕ → Bool
is_digits text = list_all is_ascii_digit text && nat_lt 0 (length text)

-- the value if it is below 2^64
abbrev pub small_number : List ℕ → Option ℕ
small_number text = if nat_lt (value_from 0 text) (2 ^ 64) then Some (value_from 0 text) else None

-- the terminal of a number with this value
abbrev pub numbered : Option ℕ → Terminal
numbered None = WideNumber
numbered (Some n) = Number n

-- the terminal of a number, by its text: only the spellings `0` and `1` give `Zero` and `One`
abbrev pub number_terminal : List ℕ → Terminal
number_terminal text =
    if bytes_eq text (codes "0") then Zero
    else if bytes_eq text (codes "1") then One
    else if not (is_digits text) then Other
    else numbered (small_number text)

-- the terminal of a token, by its kind and text
abbrev pub terminal_of : Kind → List ℕ → Terminal
terminal_of kind.Name text = keyword_terminal text
terminal_of kind.Number text = number_terminal text
terminal_of kind.Symbol text = symbol_terminal text

-- whether a token is the symbol `symbol`
abbrev pub is_symbol : List ℕ → Kind → List ℕ → Bool
is_symbol symbol kind.Symbol text = bytes_eq text symbol
is_symbol symbol _ text = false

-- whether the first token is the symbol `symbol`
abbrev pub heads_symbol : List ℕ → List TokenParts → Bool
heads_symbol symbol [] = false
heads_symbol symbol (token_parts kind at text ∷ ms) = is_symbol symbol kind text
