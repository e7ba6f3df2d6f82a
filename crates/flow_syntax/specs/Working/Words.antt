-- The terminals of listed texts.
use Rattle.std.specs.Prelude.{ℕ, List, [], ◌∷◌, if◌then◌else◌}
use Rattle.std.specs.Borrow.{Bor}
use Rattle.std.specs.Str.{bytes_eq}

-- the terminal of a text in a list, or another one if the text is not in it
abbrev pub listed_terminal : List (Bor (List ℕ) × ℕ) → ℕ → List ℕ → ℕ
listed_terminal [] other text = other
listed_terminal (row ∷ rows) other text = if bytes_eq text row.0.now then row.1 else listed_terminal rows other text
