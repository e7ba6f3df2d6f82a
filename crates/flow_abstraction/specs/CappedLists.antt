-- Lists that grow until they exceed a limit by one element.
use Rattle.std.specs.Prelude.{ℕ, List, [], ◌∷◌, ◌++◌, length, nat_lt, if◌then◌else◌}

-- the list followed by the elements of another list, each only while there are at most n
abbrev pub capped : {X : Type 0} → ℕ → List X → List X → List X
capped n xs [] = xs
capped n xs (y ∷ ys) = capped n (if nat_lt n (length xs) then xs else xs ++ y ∷ []) ys
