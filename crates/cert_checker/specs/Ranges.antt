-- Nodes out of range.
use Rattle.std.specs.Prelude.{◌≡◌, ◌<◌, ◌≤◌, ℕ, List, slice_get, Some}

-- the node at this place has a number that is not below n, and no earlier node has
pub record IsFirstOut {N : Type 0} (make : ℕ → N) (n : ℕ) (nodes : List N) (k : ℕ) : Type 0 where
  pub number : ℕ
  pub is : slice_get nodes k ≡ Some (make number)
  pub out : n ≤ number
  pub first : (j i : ℕ) → j < k → slice_get nodes j ≡ Some (make i) → i < n
