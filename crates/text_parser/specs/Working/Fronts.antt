-- What the parts of the lexer find at the start of a text.
use Rattle.std.specs.Prelude.{◌≡◌, ◌≤◌, ◌<◌, ℕ, List, [], ◌∷◌, ◌++◌, length, take, drop, false, not, if◌then◌else◌, encode_utf8}
use Rattle.std.specs.Str.{NoCharPasses, IsCharBoundary}
use Rattle.unicode_ident.specs.Ident.{is_xid_continue}
use Rattle.text_parser.specs.declared.token.Kind.{Kind}
use Rattle.text_parser.specs.Kinds.{is_symbol}
use Rattle.text_parser.specs.Lex.{IsLongest}

-- the number of bytes of the longest symbol at the start, or 0
abbrev pub symbol_len : List ℕ → ℕ
symbol_len [] = 0
symbol_len (a ∷ []) = if is_symbol (a ∷ []) then 1 else 0
symbol_len (a ∷ b ∷ bs) = if is_symbol (a ∷ b ∷ []) then 2 else (if is_symbol (a ∷ []) then 1 else 0)

-- `n` is the length in bytes of the longest leading run of characters that continue a name
pub record IsNameLen (bytes : List ℕ) (n : ℕ) : Type 0 where
  pub within : n ≤ length bytes
  pub cut : IsCharBoundary bytes n
  pub run : NoCharPasses (λ c. not (is_xid_continue c)) (take n bytes)
  pub ends : n < length bytes → (c : ℕ) × (rest : List ℕ) × (drop n bytes ≡ encode_utf8 c ++ rest) × (is_xid_continue c ≡ false)

-- the first `n` bytes are the longest token, of kind `kind`, and end between characters
pub record IsFirst (kind : Kind) (n : ℕ) (bytes : List ℕ) : Type 0 where
  pub some : 0 < n
  pub within : n ≤ length bytes
  pub cut : IsCharBoundary bytes n
  pub longest : IsLongest kind (take n bytes) bytes
