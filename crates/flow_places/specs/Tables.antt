-- Tables of live variables: a row for each block, with a truth value for each variable.
use Rattle.std.specs.Prelude.{◌≡◌, ◌≤◌, ℕ, Bool, true, false, not, List, Option, Some, None, slice_get, slice_index_or, Vec}
use Rattle.std.specs.declared.alloc.Global.{Global}
use Rattle.flow_model.specs.Graphs.{Graph}
use Rattle.flow_ways.specs.Liveness.{IsLive}
use Rattle.flow_places.specs.Live.{live_at_block, live_within}

abbrev pub in_row : Option (Vec Bool Global) → ℕ → Bool
in_row None x = false
in_row (Some row) x = slice_index_or row.items x false

-- whether variable x is noted as live at block k
abbrev pub noted : List (Vec Bool Global) → ℕ → ℕ → Bool
noted table x k = in_row (slice_get table k) x

abbrev pub same_mark : Bool → Bool → Bool
same_mark true b = b
same_mark false b = not b

-- The blocks from `first` on have been brought up to date for variable x: what is noted stays noted, is live if it was
-- before, and is all that follows for these blocks from what was noted.
pub record IsSwept (g : Graph) (x first : ℕ) (old new : ℕ → Bool) : Type 0 where
  pub kept : (k : ℕ) → old k ≡ true → new k ≡ true
  pub sound : ((k : ℕ) → old k ≡ true → IsLive g x k) → (k : ℕ) → new k ≡ true → IsLive g x k
  pub reached : (k : ℕ) → first ≤ k → live_at_block x old (slice_get g k) ≡ true → new k ≡ true

-- what is noted is live, and all that is live within n blocks is noted
pub record IsNoted (g : Graph) (x n : ℕ) (table : ℕ → Bool) : Type 0 where
  pub sound : (k : ℕ) → table k ≡ true → IsLive g x k
  pub complete : (k : ℕ) → live_within g x n k ≡ true → table k ≡ true
