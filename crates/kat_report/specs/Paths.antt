-- The text of the path of a statement.
use Rattle.std.specs.Prelude.{ℕ, List, [], ◌∷◌, ◌++◌, codes}
use Rattle.std.specs.Fmt.{decimal}

-- each number after a dot
abbrev pub dotted : List ℕ → List ℕ
dotted [] = []
dotted (k ∷ ks) = (codes "." ++ decimal k) ++ dotted ks

-- the numbers of a path with dots between them
abbrev pub path_text : List ℕ → List ℕ
path_text [] = []
path_text (k ∷ ks) = decimal k ++ dotted ks
