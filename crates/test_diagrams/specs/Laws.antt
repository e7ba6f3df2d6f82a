-- The law of ids and functions.
use Rattle.std.specs.Prelude.{◌≡◌, ◌≢◌, ◌↔◌, ℕ}
use Rattle.test_diagrams.specs.Functions.{DiagramsParts, IsDiagramId, SameFunction, IsApart}

-- two ids are equal if and only if their functions are, and different ids have different values at some atom
pub record EqualIdsAreEqualFunctions (d : DiagramsParts) : Type 0 where
  pub same : (i j : ℕ) → IsDiagramId d i → IsDiagramId d j → (i ≡ j) ↔ SameFunction d i j
  pub apart : (i j : ℕ) → IsDiagramId d i → IsDiagramId d j → i ≢ j → IsApart d i j
