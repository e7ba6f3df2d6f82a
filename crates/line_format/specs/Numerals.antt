-- Numerals, and the numbers that they denote.
use Rattle.std.specs.Prelude.{ℕ, ◌+◌, ◌-◌, ◌*◌, ◌^◌, Bool, not, ◌&&◌, ◌||◌, ◌==◌, nat_lt, nat_le, if◌then◌else◌, List, [], ◌∷◌, length, map, slice_index, Option, Some, None}
use Rattle.std.specs.List.{list_all}
use Rattle.std.specs.Char.{is_ascii_digit}

-- `0`, or a digit other than 0 followed by digits
abbrev pub is_numeral : List ℕ → Bool
is_numeral w = nat_lt 0 (length w) && ((not (slice_index w 0 == 48) || (length w == 1)) && list_all is_ascii_digit w)

abbrev pub value_from : ℕ → List ℕ → ℕ
value_from n [] = n
value_from n (c ∷ cs) = value_from (10 * n + (c - 48)) cs

abbrev pub value_of : List ℕ → ℕ
value_of w = value_from 0 w

-- the numbers that words denote, if each word is a numeral
abbrev pub numbers_of : List (List ℕ) → Option (List ℕ)
numbers_of ws = if list_all is_numeral ws then Some (map value_of ws) else None

-- a number of 2^64 or more
abbrev pub too_wide : ℕ → Bool
too_wide k = nat_le (2 ^ 64) k
