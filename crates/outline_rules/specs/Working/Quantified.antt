-- The first tests of an atom with some values, or with the values of another atom.
use Rattle.std.specs.Prelude.{ℕ, zero, suc, Bool, false, true, ◌||◌, ◌++◌, take, drop, slice_set}
use Rattle.kat_model.specs.Steps.{Atom}

-- whether the function is true for some values of the first k tests
abbrev pub some_first : ℕ → (Atom → Bool) → Atom → Bool
some_first zero function atom = function atom
some_first (suc k) function atom = some_first k function (slice_set atom k false) || some_first k function (slice_set atom k true)

-- the first k values of one atom, then the remaining values of the other
abbrev pub with_first : ℕ → Atom → Atom → Atom
with_first k first atom = take k first ++ drop k atom
