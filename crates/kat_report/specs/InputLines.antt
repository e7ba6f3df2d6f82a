-- The lines about words that do not fit, and about files that cannot be read or are too long.
use Rattle.std.specs.Prelude.{ℕ, List, [], ◌∷◌, ◌++◌, codes}

-- `cannot read `, the name of the file, and a line feed
abbrev pub unread_line : List ℕ → List ℕ
unread_line file = codes "cannot read " ++ file ++ 10 ∷ []

-- the line for a problem file that has more bytes than the limit
abbrev pub too_long_line : List ℕ
too_long_line = codes "refused: TooLong\n"

-- the line for words that have no command or do not fit a file
abbrev pub words_line : List ℕ
words_line = codes "refused: words\n"
