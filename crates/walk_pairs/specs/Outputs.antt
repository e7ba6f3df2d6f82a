-- Atoms at which diagrams are true.
use Rattle.std.specs.Prelude.{ℕ, Bool, not, ◌&&◌, ◌||◌, IsTrue, slice_set}
use Rattle.kat_model.specs.Steps.{Atom}
use Rattle.test_diagrams.specs.Functions.{DiagramsParts, value_of, IsAtomOf}

-- exclusive or
abbrev pub one_of : Bool → Bool → Bool
one_of b c = (b && not c) || (c && not b)

-- the diagram is true at some atom
pub record IsSomewhereTrue (d : DiagramsParts) (id : ℕ) : Type 0 where
  pub atom : Atom
  pub fits : IsAtomOf d atom
  pub holds : IsTrue (value_of d id atom)

-- the diagram is true at some atom with this value of the test
pub record IsFirstValue (d : DiagramsParts) (id test : ℕ) (value : Bool) : Type 0 where
  pub atom : Atom
  pub fits : IsAtomOf d atom
  pub holds : IsTrue (value_of d id (slice_set atom test value))
