-- The results of reading lines and words.
use Rattle.std.specs.Prelude.{◌≡◌, ◌+◌, ℕ, true, false, List, ◌∷◌, length, map, Option, Some, None}
use Rattle.std.specs.Borrow.{Bor}
use Rattle.std.specs.List.{list_all, list_any}
use Rattle.line_format.specs.declared.numerals.Numbers.{Numbers}
use Rattle.line_format.specs.Lines.{parts_of}
use Rattle.line_format.specs.Numerals.{is_numeral, value_of, too_wide}

-- the bytes of words
abbrev pub texts : List (Bor (List ℕ)) → List (List ℕ)
texts ws = map (λ w. w.now) ws

-- the bytes are a complete line, its line feed, and what follows
pub record IsCutLine (bytes line after : List ℕ) : Type 0 where
  pub parts : parts_of bytes ≡ line ∷ parts_of after
  pub length : length line + 1 + length after ≡ length bytes

-- these are the numbers, unless one of them is too wide
pub record HasNumbers (ks : List ℕ) (numbers : Numbers) : Type 0 where
  pub count : length numbers.values.items ≡ length ks
  pub wide : numbers.wide ≡ list_any too_wide ks
  pub values : numbers.wide ≡ false → numbers.values.items ≡ ks

-- the numbers of the words, if all are numerals
abbrev pub ReadsNumbers : List (List ℕ) → Option Numbers → Type 0
ReadsNumbers ws None = list_all is_numeral ws ≡ false
ReadsNumbers ws (Some numbers) = (list_all is_numeral ws ≡ true) × HasNumbers (map value_of ws) numbers
