-- Lists that have each element once.
use Rattle.std.specs.Prelude.{ℕ, List, [], ◌∷◌, ◌++◌, length, Bool, ◌||◌, nat_lt, if◌then◌else◌}
use Rattle.std.specs.List.{list_any}

-- the list with x at its end, if x is not in it yet
abbrev pub with_new : {X : Type 0} → (X → X → Bool) → List X → X → List X
with_new same xs x = if list_any (same x) xs then xs else xs ++ x ∷ []

-- the list followed by the new elements of another list, each once, in the order of their first appearance
abbrev pub with_all_new : {X : Type 0} → (X → X → Bool) → List X → List X → List X
with_all_new same xs [] = xs
with_all_new same xs (y ∷ ys) = with_all_new same (with_new same xs y) ys

-- Tables that receive each new row in turn, until they exceed the limit by one row.

-- the list with x at its end, if it has at most n members and x is not one of them
abbrev pub with_new_within : {X : Type 0} → ℕ → (X → X → Bool) → List X → X → List X
with_new_within n same xs x = if nat_lt n (length xs) || list_any (same x) xs then xs else xs ++ x ∷ []

abbrev pub with_all_new_within : {X : Type 0} → ℕ → (X → X → Bool) → List X → List X → List X
with_all_new_within n same xs [] = xs
with_all_new_within n same xs (y ∷ ys) = with_all_new_within n same (with_new_within n same xs y) ys
