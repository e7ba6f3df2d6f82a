-- The order of atoms: test 0 first, false before true.
use Rattle.std.specs.Prelude.{true, false, [], ◌∷◌}
use Rattle.kat_model.specs.Steps.{Atom}

-- at the first test where the atoms differ, the first atom is false
abbrev pub IsLess : Atom → Atom → Type 0
IsLess [] ys = ⊥
IsLess (x ∷ xs) [] = ⊥
IsLess (false ∷ xs) (true ∷ ys) = Unit {0}
IsLess (true ∷ xs) (false ∷ ys) = ⊥
IsLess (false ∷ xs) (false ∷ ys) = IsLess xs ys
IsLess (true ∷ xs) (true ∷ ys) = IsLess xs ys
