-- Numbers in words of the command line.
use Rattle.std.specs.Prelude.{ℕ, zero, suc, List, length, Bool, ◌&&◌, nat_lt, Option, None, Some, if◌then◌else◌}
use Rattle.text_parser.specs.Terminals.{value_from, is_digits}

-- 1 to 20 ASCII digits
abbrev pub is_number : List ℕ → Bool
is_number word = is_digits word && nat_lt (length word) 21

-- the value of the word, if it is a number below the bound
abbrev pub number_below : ℕ → List ℕ → Option ℕ
number_below bound word = if is_number word && nat_lt (value_from 0 word) bound then Some (value_from 0 word) else None

-- the word as a number of problems: from 1 to 10,000
abbrev pub where_positive : Option ℕ → Option ℕ
where_positive None = None
where_positive (Some zero) = None
where_positive (Some (suc n)) = Some (suc n)

abbrev pub count_of : List ℕ → Option ℕ
count_of word = where_positive (number_below 10001 word)
