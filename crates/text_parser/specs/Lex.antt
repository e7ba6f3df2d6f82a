-- The tokens of a text: separators, comments and tokens alternate, and each token is the longest at its place.
use Rattle.std.specs.Prelude.{◌≡◌, ◌≤◌, ◌<◌, ◌+◌, ℕ, List, [], ◌∷◌, ◌++◌, length, take, drop, Bool, true, false, not, ◌==◌, if◌then◌else◌}
use Rattle.std.specs.Str.{IsUtf8}
use Rattle.text_parser.specs.declared.lexer.TheConstants.{MAX_LEN}
use Rattle.text_parser.specs.declared.token.Kind.{Kind}
use Rattle.text_parser.specs.declared.fault.TextFault.{TextFault}
use Rattle.text_parser.specs.declared.fault.TextFault.TheVariants.{NoMemory, BadToken}
use Rattle.text_parser.specs.Kinds.{is_separator, IsToken}
use Rattle.text_parser.specs.TokenParts.{TokenParts, token_parts, kind_of, place_of, bytes_of}

-- the number of bytes of the leading separators and comments; a comment ends after the next line feed
abbrev pub gap_len : Bool → List ℕ → ℕ
gap_len in_comment [] = 0
gap_len true (b ∷ bs) = 1 + gap_len (not (b == 10)) bs
gap_len false (b ∷ bs) = if b == 35 then 1 + gap_len true bs else (if is_separator b then 1 + gap_len false bs else 0)

-- the first place from `at` on where no separator and no comment begins
abbrev pub gap_end : List ℕ → ℕ → ℕ
gap_end text at = at + gap_len false (drop at text)

-- the bytes begin with `token`, which is a token of kind `kind`, and with no longer token
pub record IsLongest (kind : Kind) (token bytes : List ℕ) : Type 0 where
  pub is_token : IsToken kind token
  pub front : (rest : List ℕ) × (bytes ≡ token ++ rest)
  pub longest : (other : Kind) (longer rest : List ℕ) → IsToken other longer → bytes ≡ longer ++ rest → length longer ≤ length token

-- the bytes begin with no token
abbrev pub BeginsNone : List ℕ → Type 0
BeginsNone bytes = (kind : Kind) (token rest : List ℕ) → IsToken kind token → bytes ≡ token ++ rest → ⊥

-- From place `at` to place `end` the text consists of these tokens, with separators and comments before each and after
-- the last.
abbrev pub LexesFrom : List ℕ → ℕ → List TokenParts → ℕ → Type 0
LexesFrom text at [] end = gap_end text at ≡ end
LexesFrom text at (token_parts kind place token ∷ ms) end =
    (gap_end text at ≡ place) × IsLongest kind token (drop place text) × LexesFrom text (place + length token) ms end

-- the text is UTF-8 and has at most `MAX_LEN` bytes
pub record IsText (bytes : List ℕ) : Type 0 where
  pub within : length bytes ≤ MAX_LEN
  pub utf8 : IsUtf8 bytes

-- the tokens of the text are `ms`
pub record Lexes (text : List ℕ) (ms : List TokenParts) : Type 0 where
  pub is_text : IsText text
  pub tokens : LexesFrom text 0 ms (length text)

-- `at` is the first place of the text where a token must begin and none does
pub record FirstBad (text : List ℕ) (at : ℕ) : Type 0 where
  pub is_text : IsText text
  pub before : (ms : List TokenParts) × LexesFrom text 0 ms at
  pub inside : at < length text
  pub none : BeginsNone (drop at text)

-- the fault agrees with its cause in the text
abbrev pub IsFault : List ℕ → TextFault → Type 0
IsFault text NoMemory = Unit {0}
IsFault text (BadToken at) = FirstBad text at
IsFault text other = ⊥

-- the token is a non-empty slice of the text and a token of its kind
pub record IsSlice (text : List ℕ) (m : TokenParts) : Type 0 where
  pub is_token : IsToken (kind_of m) (bytes_of m)
  pub some : 0 < length (bytes_of m)
  pub inside : place_of m + length (bytes_of m) ≤ length text
  pub slice : take (length (bytes_of m)) (drop (place_of m) text) ≡ bytes_of m
