-- The matrices and rows in which a term is evaluated.
use Rattle.std.specs.Prelude.{◌≡◌, ◌+◌, List, Bool, length, replicate}
use Rattle.string_tables.specs.Tables.{Room}
use Rattle.string_tables.specs.Working.Matrices.{Square, sizes, widths}

-- the available room, and the matrix of the evaluated term
pub record Filled : Type 0 where
  pub room : Room
  pub top : Square

abbrev pub filled : Square → List Square → Filled
filled top below = record { room = record { depth = length below + 1; states = top.size }; top = top }

-- all matrices have the same size, which is also the length of each row, and there is a row for each matrix below
pub record IsEven (top : Square) (below : List Square) (spare set : List Bool) (rows : List (List Bool)) : Type 0 where
  pub sizes_below : sizes below ≡ replicate (length below) top.size
  pub width : length spare ≡ top.size
  pub set_width : length set ≡ top.size
  pub row_widths : widths rows ≡ replicate (length below) top.size
