-- Numbers in texts.
use Rattle.std.specs.Prelude.{ℕ, Bool, ◌==◌, if◌then◌else◌, List, [], ◌∷◌, Option, Some, None}
use Rattle.line_format.specs.Numerals.{is_numeral, value_of}
use Rattle.lrat_checker.specs.declared.literal.Literal.{Literal}

-- a decimal number in words: 0, a positive number, or a negative one with its size
pub data NumberParts : Type 0 where
  nothing : NumberParts
  plus : (k : ℕ) → NumberParts
  minus : (k : ℕ) → NumberParts

-- the number of a numeral
abbrev pub unsigned : List ℕ → Option NumberParts
unsigned w = if is_numeral w then Some (if value_of w == 0 then nothing else plus (value_of w)) else None

-- the negation of a positive number
abbrev pub negated : Option NumberParts → Option NumberParts
negated (Some (plus k)) = Some (minus k)
negated o = None

-- the number of a word: a numeral, or one other than 0 after a minus sign
abbrev pub number_of : List ℕ → Option NumberParts
number_of [] = None
number_of (b ∷ bs) = if b == 45 then negated (unsigned bs) else unsigned (b ∷ bs)

-- the literal of a variable
abbrev pub literal : ℕ → Bool → Literal
literal variable positive = record { variable = variable; positive = positive }
