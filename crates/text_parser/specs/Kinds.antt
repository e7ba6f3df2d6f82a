-- Separators, and the byte sequences that are tokens of each kind.
use Rattle.std.specs.Prelude.{◌≡◌, ℕ, List, [], ◌∷◌, Bool, true, false, ◌&&◌, ◌||◌, ◌==◌, codes, bytes_eq}
use Rattle.std.specs.List.{list_any, list_all}
use Rattle.std.specs.Char.{is_ascii_digit}
use Rattle.std.specs.Str.{is_utf8, chars}
use Rattle.unicode_ident.specs.Ident.{is_xid_start, is_xid_continue}
use Rattle.text_parser.specs.declared.token.Kind.{Kind}
use Rattle.text_parser.specs.declared.token.Kind.TheVariants.{Name, Number, Symbol}

-- space, tab, carriage return and line feed
abbrev pub is_separator : ℕ → Bool
is_separator b = (b == 32) || ((b == 9) || ((b == 13) || (b == 10)))

-- the symbols, those with two characters first
abbrev pub symbols : List (List ℕ)
symbols =
    codes ":=" ∷ codes "==" ∷ codes "!=" ∷ codes "<=" ∷ codes ">=" ∷ codes "&&" ∷ codes "||"
    ∷ codes ";" ∷ codes "," ∷ codes "{" ∷ codes "}" ∷ codes "(" ∷ codes ")" ∷ codes "[" ∷ codes "]"
    ∷ codes "=" ∷ codes "<" ∷ codes ">" ∷ codes "+" ∷ codes "-" ∷ codes "*" ∷ codes "." ∷ codes "!" ∷ codes "^" ∷ []

-- whether the bytes are a symbol
abbrev pub is_symbol : List ℕ → Bool
is_symbol bytes = list_any (bytes_eq bytes) symbols

-- whether the bytes are a non-empty run of ASCII digits
abbrev pub is_number : List ℕ → Bool
is_number [] = false
is_number (b ∷ bs) = is_ascii_digit b && list_all is_ascii_digit bs

-- whether a name may begin with character `c`
abbrev pub begins_name : ℕ → Bool
begins_name c = is_xid_start c || (c == 95)

-- whether the characters are a name: one that begins a name, then any that continue one
abbrev pub is_name : List ℕ → Bool
is_name [] = false
is_name (c ∷ cs) = begins_name c && list_all is_xid_continue cs

-- whether the bytes are a token of this kind; keywords are names
abbrev pub is_token : Kind → List ℕ → Bool
is_token Name bytes = is_utf8 bytes && is_name (chars bytes)
is_token Number bytes = is_number bytes
is_token Symbol bytes = is_symbol bytes

-- the bytes are a token of this kind
abbrev pub IsToken : Kind → List ℕ → Type 0
IsToken kind bytes = is_token kind bytes ≡ true
