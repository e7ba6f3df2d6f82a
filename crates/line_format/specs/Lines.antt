-- Texts of lines: their lines and words, and how they are written.
use Rattle.std.specs.Prelude.{ℕ, ◌==◌, List, [], ◌∷◌, ◌++◌}
use Rattle.std.specs.List.{slice_split, join_with_byte, flat_map}

-- the parts of a text between its line feeds
abbrev pub parts_of : List ℕ → List (List ℕ)
parts_of bytes = slice_split (λ b. b == 10) bytes

-- the words of a line, separated by single blanks
abbrev pub words_of : List ℕ → List (List ℕ)
words_of line = slice_split (λ b. b == 32) line

-- words with one blank between them
abbrev pub line_of : List (List ℕ) → List ℕ
line_of ws = join_with_byte 32 ws

-- each word after a blank
abbrev pub after_blanks : List (List ℕ) → List ℕ
after_blanks ws = flat_map (λ w. 32 ∷ w) ws

-- a line followed by its line feed
abbrev pub with_feed : List ℕ → List ℕ
with_feed line = line ++ 10 ∷ []

-- the text of lines, each followed by a line feed
abbrev pub text_of_lines : List (List ℕ) → List ℕ
text_of_lines ls = flat_map (λ l. l ++ 10 ∷ []) ls
