-- Square matrices of truth values, and rows as sets of numbers.
use Rattle.std.specs.Prelude.{◌≡◌, ◌<◌, ℕ, List, [], length, map, Bool, false, ◌&&◌, slice_index_or}
use Rattle.kat_model.specs.Working.Decided.{some_below}

pub record Square : Type 0 where
  pub size : ℕ
  pub rows : List (List Bool)

abbrev pub row_at : List (List Bool) → ℕ → List Bool
row_at rows i = slice_index_or rows i []

abbrev pub entry : Square → ℕ → ℕ → Bool
entry m i j = slice_index_or (row_at m.rows i) j false

-- the numbers of rows and of entries in each row are the size
pub record IsSquare (m : Square) : Type 0 where
  pub height : length m.rows ≡ m.size
  pub width : (i : ℕ) → i < m.size → length (row_at m.rows i) ≡ m.size

-- the entries of the first n rows and columns are the values of the function
abbrev pub Represents : ℕ → Square → (ℕ → ℕ → Bool) → Type 0
Represents n m r = (i j : ℕ) → i < n → j < n → entry m i j ≡ r i j

-- the matrix at an index of a list
abbrev pub level : List Square → ℕ → Square
level ms k = slice_index_or ms k (record { size = 0; rows = [] })

abbrev pub sizes : List Square → List ℕ
sizes ms = map (λ m. m.size) ms

abbrev pub widths : List (List Bool) → List ℕ
widths rows = map length rows

-- whether the relation leads from some number below n in the row to j
abbrev pub in_image : ℕ → List Bool → (ℕ → ℕ → Bool) → ℕ → Bool
in_image n row r j = some_below (λ i. slice_index_or row i false && r i j) n

-- in the first n entries, the second row is the image of the first row under the relation
abbrev pub IsImage : ℕ → List Bool → (ℕ → ℕ → Bool) → List Bool → Type 0
IsImage n row r to = (j : ℕ) → j < n → slice_index_or to j false ≡ in_image n row r j
