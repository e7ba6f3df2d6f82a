-- Words of what is left of a text, as the program sees them.
use Rattle.std.specs.Prelude.{◌≡◌, ℕ, ◌+◌, ◌<◌, ◌≤◌, ◌^◌, false, List, [], ◌∷◌, ◌++◌, map, length, Option, None, Some}
use Rattle.std.specs.Borrow.{Bor}
use Rattle.line_format.specs.Lines.{parts_of}
use Rattle.lrat_checker.specs.Words.{WordParts, is_gap, parts_in, words_from}
use Rattle.lrat_checker.specs.Numbers.{NumberParts, nothing, plus, minus}
use Rattle.lrat_checker.specs.declared.words.Word.{Word}
use Rattle.lrat_checker.specs.declared.words.Number.{Number}
use Rattle.lrat_checker.specs.declared.words.Number.TheVariants.{Zero, Positive, Negative, Wide, WideBelow}

-- the word as definitions see it
abbrev pub word_of : Word → WordParts
word_of w = record { line = w.line; bytes = w.bytes.now }

-- the lines after a line feed, if there is one
abbrev pub lines_after : Option (Bor (List ℕ)) → List (List ℕ)
lines_after None = []
lines_after (Some text) = parts_of text.now

-- the words of line n that are left, and those of the lines after it
abbrev pub words_left : ℕ → List ℕ → Option (Bor (List ℕ)) → List WordParts
words_left n line after = map (λ w. record { line = n; bytes = w }) (parts_in line) ++ words_from (n + 1) (lines_after after)

-- the number of the last line
abbrev pub last_left : ℕ → Option (Bor (List ℕ)) → ℕ
last_left n after = n + length (lines_after after)

-- a bound on the number of lines that are left
abbrev pub room : Option (Bor (List ℕ)) → ℕ
room None = 0
room (Some text) = length text.now + 1

-- the line does not begin with a gap
abbrev pub BeginsWord : List ℕ → Type 0
BeginsWord [] = Unit {0}
BeginsWord (b ∷ bs) = is_gap b ≡ false

-- the line, from its first word on
pub record IsFromWord (line rest : List ℕ) : Type 0 where
  pub parts : parts_in rest ≡ parts_in line
  pub begins : BeginsWord rest
  pub within : length rest ≤ length line

-- the first word of the line, and what follows it
pub record IsFirstWord (line word rest : List ℕ) : Type 0 where
  pub parts : parts_in line ≡ word ∷ parts_in rest
  pub shorter : length rest < length line

-- the first line of a text, without its words if it is a comment, and what follows its line feed
pub record IsFirstLine (text line : List ℕ) (after : Option (Bor (List ℕ))) : Type 0 where
  pub words : (n : ℕ) → words_from n (parts_of text) ≡ words_left n line after
  pub count : length (parts_of text) ≡ length (lines_after after) + 1
  pub shorter : room after ≤ length text

-- the next word, if there is one
abbrev pub IsNext : List WordParts → List WordParts → Option Word → Type 0
IsNext old new None = (old ≡ []) × (new ≡ [])
IsNext old new (Some word) = old ≡ word_of word ∷ new

-- a positive number of 2^64 or more, and a negative one of this size
abbrev pub IsWide : Option NumberParts → Type 0
IsWide None = ⊥
IsWide (Some nothing) = ⊥
IsWide (Some (plus k)) = 2 ^ 64 ≤ k
IsWide (Some (minus k)) = ⊥

abbrev pub IsWideBelow : Option NumberParts → Type 0
IsWideBelow None = ⊥
IsWideBelow (Some nothing) = ⊥
IsWideBelow (Some (plus k)) = ⊥
IsWideBelow (Some (minus k)) = 2 ^ 64 ≤ k

-- the program's number is that of the definitions
abbrev pub IsNumber : Option NumberParts → Option Number → Type 0
IsNumber given None = given ≡ None
IsNumber given (Some Zero) = given ≡ Some nothing
IsNumber given (Some (Positive k)) = given ≡ Some (plus k)
IsNumber given (Some (Negative k)) = given ≡ Some (minus k)
IsNumber given (Some Wide) = IsWide given
IsNumber given (Some WideBelow) = IsWideBelow given
