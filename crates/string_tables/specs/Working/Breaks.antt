-- The terms of a list that relate states of a table, and the first of them.
use Rattle.std.specs.Prelude.{◌≡◌, ◌<◌, ℕ, List, slice_get, Some}
use Rattle.kat_model.specs.Trees.{Term}
use Rattle.kat_model.specs.Relations.{Table, Relates}
use Rattle.string_tables.specs.Findings.{IsBefore}

-- the term at index h relates state i to state j
pub record Breaks (t : Table) (terms : List Term) (h i j : ℕ) : Type 0 where
  pub term : Term
  pub is : slice_get terms h ≡ Some term
  pub from : i < t.states
  pub to : j < t.states
  pub relates : Relates t term i j

-- and no earlier triple does
pub record BreaksFirst (t : Table) (terms : List Term) (h i j : ℕ) : Type 0 where
  pub breaks : Breaks t terms h i j
  pub first : (g k l : ℕ) → IsBefore g h k i l j → Breaks t terms g k l → ⊥
