-- Two atoms as one atom over twice as many tests: values before a step at even indices, values after it at odd indices.
use Rattle.std.specs.Prelude.{ℕ, ◌+◌, Bool, List, [], ◌∷◌, slice_set}
use Rattle.kat_model.specs.Steps.{Atom}
use Rattle.outline_rules.specs.declared.moments.Moment.{Moment}
use Rattle.outline_rules.specs.declared.moments.Moment.TheVariants.{Before, After}

-- the first value of each atom, then the second value of each, and so on
abbrev pub interleaved : Atom → Atom → Atom
interleaved [] after = []
interleaved (x ∷ before) [] = []
interleaved (x ∷ before) (y ∷ after) = x ∷ y ∷ interleaved before after

-- the atom at a moment of the step
abbrev pub atom_at_moment : Moment → Atom → Atom → Atom
atom_at_moment Before before after = before
atom_at_moment After before after = after

-- the number of the copy of a test, among twice as many tests
abbrev pub copy_number : ℕ → Moment → ℕ
copy_number test Before = test + test
copy_number test After = test + test + 1

-- a function of two atoms, with the value of a test at a moment replaced
abbrev pub with_value : Moment → ℕ → Bool → (Atom → Atom → Bool) → Atom → Atom → Bool
with_value Before test value function before after = function (slice_set before test value) after
with_value After test value function before after = function before (slice_set after test value)
