-- What listed words name.
use Rattle.std.specs.Prelude.{ℕ, List, [], ◌∷◌, Bool, if◌then◌else◌, Option, Some, None}
use Rattle.std.specs.Borrow.{Bor}
use Rattle.std.specs.Str.{bytes_eq}
use Rattle.kat_model.specs.declared.expression.Rel.{Rel}
use Rattle.kat_model.specs.declared.expression.Width.{Width}

-- the width of a word in a list, with its sign, if the word is in the list
abbrev pub listed_width : List (Bor (List ℕ) × (Bool × Width)) → List ℕ → Option (Bool × Width)
listed_width [] text = None
listed_width (row ∷ rows) text = if bytes_eq text row.0.now then Some row.1 else listed_width rows text

-- the relation of a word in a list, or another one if the word is not in it
abbrev pub listed_rel : List (Bor (List ℕ) × Rel) → Rel → List ℕ → Rel
listed_rel [] other text = other
listed_rel (row ∷ rows) other text = if bytes_eq text row.0.now then row.1 else listed_rel rows other text
