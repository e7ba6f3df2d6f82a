-- Where an offset is in a text: its line, its column, and the text of its line.
use Rattle.std.specs.Prelude.{◌≡◌, ◌+◌, ◌≤◌, ℕ, Bool, true, ◌==◌, ◌||◌, nat_lt, nat_le, List, length, take, drop, count_by, slice_get, Some}
use Rattle.std.specs.List.{after_last, before_first}

abbrev pub is_feed : ℕ → Bool
is_feed byte = byte == 10

-- A byte of UTF-8 begins a character unless it is a continuation byte, 128 to 191 (RFC 3629, section 3).
abbrev pub begins_character : ℕ → Bool
begins_character byte = nat_lt byte 128 || nat_le 192 byte

abbrev pub characters : List ℕ → ℕ
characters bytes = count_by begins_character bytes

-- the part of the offset's line that is before it, and the part from it on
abbrev pub line_before : List ℕ → ℕ → List ℕ
line_before text at = after_last is_feed (take at text)

abbrev pub line_from : List ℕ → ℕ → List ℕ
line_from text at = before_first is_feed (drop at text)

-- a line has number 1 and one more after each line feed; a column is counted in characters from 1
abbrev pub line_at : List ℕ → ℕ → ℕ
line_at text at = count_by is_feed (take at text) + 1

abbrev pub column_at : List ℕ → ℕ → ℕ
column_at text at = characters (line_before text at) + 1

-- ---- the law

-- a character begins at the offset, or the text ends there
abbrev pub IsCharacterPlace : List ℕ → ℕ → Type 0
IsCharacterPlace text at = (at ≤ length text) × ((byte : ℕ) → slice_get text at ≡ Some byte → begins_character byte ≡ true)

-- of the offsets at which a character begins or the text ends, the line and the column determine one
abbrev pub PlacesAreDetermined : Type 0
PlacesAreDetermined = (text : List ℕ) (a b : ℕ) → IsCharacterPlace text a → IsCharacterPlace text b
    → line_at text a ≡ line_at text b → column_at text a ≡ column_at text b → a ≡ b
