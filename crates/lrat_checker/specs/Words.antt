-- The words of a text.
use Rattle.std.specs.Prelude.{ℕ, ◌+◌, Bool, false, not, ◌||◌, ◌==◌, if◌then◌else◌, List, [], ◌∷◌, ◌++◌, map, filter, length, Result, Ok, Err}
use Rattle.std.specs.List.{slice_split}
use Rattle.line_format.specs.Lines.{parts_of}

-- a word and the number of its line
pub record WordParts : Type 0 where
  pub line : ℕ
  pub bytes : List ℕ

-- words are separated by blanks, tabs and carriage returns
abbrev pub is_gap : ℕ → Bool
is_gap b = (b == 32) || ((b == 9) || (b == 13))

-- a comment is a line that begins with `c`
abbrev pub is_comment : List ℕ → Bool
is_comment [] = false
is_comment (b ∷ bs) = b == 99

-- the parts of a line between gaps, without empty ones
abbrev pub parts_in : List ℕ → List (List ℕ)
parts_in line = filter (λ w. not (length w == 0)) (slice_split is_gap line)

abbrev pub words_of_line : List ℕ → List (List ℕ)
words_of_line line = if is_comment line then [] else parts_in line

-- the words of lines from line n on
abbrev pub words_from : ℕ → List (List ℕ) → List WordParts
words_from n [] = []
words_from n (line ∷ lines) =
    map (λ w. record { line = n; bytes = w }) (words_of_line line) ++ words_from (n + 1) lines

-- the words of a text, whose lines are numbered from 1
abbrev pub words_of : List ℕ → List WordParts
words_of text = words_from 1 (parts_of text)

-- the number of the last line
abbrev pub last_line : List ℕ → ℕ
last_line text = length (parts_of text)

-- How a text is read word by word: D is what was read so far, V is what a text denotes, and F are the faults.
pub record WordFormat (D V F : Type 0) : Type 0 where
  pub with_word : D → WordParts → Result D F
  pub at_end : D → ℕ → Result V F

abbrev pub and_then : {D V F : Type 0} → Result D F → (D → Result V F) → Result V F
and_then (Ok d) more = more d
and_then (Err fault) more = Err fault

-- what the words denote after what was read so far, or their first fault
abbrev pub read_from : {D V F : Type 0} → WordFormat D V F → D → List WordParts → ℕ → Result V F
read_from f d [] last = f.at_end d last
read_from f d (w ∷ ws) last = and_then (f.with_word d w) (λ more. read_from f more ws last)
