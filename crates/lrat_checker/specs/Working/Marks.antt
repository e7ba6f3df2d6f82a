-- Marks of literals.
use Rattle.std.specs.Prelude.{◌≡◌, ℕ, ◌+◌, ◌*◌, Bool, true, false, List, [], ◌∷◌, slice_set, slice_index_or}
use Rattle.kat_model.specs.Members.{Has}
use Rattle.lrat_checker.specs.declared.literal.Literal.{Literal}

-- the place of the mark of a literal
abbrev pub place_at : ℕ → Bool → ℕ
place_at variable true = 2 * variable + 1
place_at variable false = 2 * variable

abbrev pub place_of : Literal → ℕ
place_of l = place_at l.variable l.positive

-- the mark at a place
abbrev pub has_mark : List Bool → ℕ → Bool
has_mark marks place = slice_index_or marks place false

-- the places that are marked are those of the literals
pub record AreMarked (literals : List Literal) (marks : List Bool) : Type 0 where
  pub marked : (l : Literal) → Has literals l → has_mark marks (place_of l) ≡ true
  pub only : (place : ℕ) → has_mark marks place ≡ true → (l : Literal) × Has literals l × (place ≡ place_of l)

-- the marks without those of the literals
abbrev pub without_marks : List Bool → List Literal → List Bool
without_marks marks [] = marks
without_marks marks (l ∷ ls) = without_marks (slice_set marks (place_of l) false) ls
