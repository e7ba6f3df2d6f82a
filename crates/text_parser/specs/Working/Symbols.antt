-- The symbols of each length.
use Rattle.std.specs.Prelude.{ℕ, ◌==◌, ◌&&◌, if◌then◌else◌}
use Rattle.std.specs.Str.{byte}
use Rattle.kat_model.specs.declared.expression.Rel.TheVariants.{Eq, Ne, Lt, Le, Gt, Ge}
use Rattle.text_parser.specs.declared.terminal.Separator.TheVariants.{Comma, Semicolon, CurlyOpen, CurlyClose, Equals, Becomes, Caret}
use Rattle.text_parser.specs.declared.terminal.Terminal.{Terminal}
use Rattle.text_parser.specs.declared.terminal.Terminal.TheVariants.{RoundOpen, RoundClose, SquareOpen, SquareClose, Bang, Star, Plus, Minus, Dot, And, Or, Compares, Separator, Other}

-- the terminal of a symbol of one byte
abbrev pub symbol_of_one : ℕ → Terminal
symbol_of_one b =
    if b == byte "(" then RoundOpen
    else if b == byte ")" then RoundClose
    else if b == byte "[" then SquareOpen
    else if b == byte "]" then SquareClose
    else if b == byte "!" then Bang
    else if b == byte "*" then Star
    else if b == byte "+" then Plus
    else if b == byte "-" then Minus
    else if b == byte "." then Dot
    else if b == byte "<" then Compares Lt
    else if b == byte ">" then Compares Gt
    else if b == byte "," then Separator Comma
    else if b == byte ";" then Separator Semicolon
    else if b == byte "{" then Separator CurlyOpen
    else if b == byte "}" then Separator CurlyClose
    else if b == byte "=" then Separator Equals
    else if b == byte "^" then Separator Caret
    else Other

-- the terminal of a symbol of two bytes
abbrev pub symbol_of_two : ℕ → ℕ → Terminal
symbol_of_two a b =
    if a == byte "&" && b == byte "&" then And
    else if a == byte "|" && b == byte "|" then Or
    else if a == byte "=" && b == byte "=" then Compares Eq
    else if a == byte "!" && b == byte "=" then Compares Ne
    else if a == byte "<" && b == byte "=" then Compares Le
    else if a == byte ">" && b == byte "=" then Compares Ge
    else if a == byte ":" && b == byte "=" then Separator Becomes
    else Other
