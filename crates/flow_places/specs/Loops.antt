-- Loops that no place cuts.
use Rattle.std.specs.Prelude.{◌≡◌, ℕ, Bool, false, List, [], Option, Some, None, slice_get}
use Rattle.kat_model.specs.Members.{Has}
use Rattle.flow_model.specs.Graphs.{Block, Graph}
use Rattle.flow_ways.specs.Liveness.{jump_targets}
use Rattle.flow_places.specs.Places.{is_place}

-- the blocks to which a block may jump; none where there is no block
abbrev pub targets_of : Option Block → List ℕ
targets_of None = []
targets_of (Some block) = jump_targets block.jump

abbrev pub targets : Graph → ℕ → List ℕ
targets g k = targets_of (slice_get g k)

-- jumps lead from the entry to the block
pub data IsReached (g : Graph) : ℕ → Type 0 where
  entry : (k : ℕ) (block : Block) → k ≡ 0 → slice_get g k ≡ Some block → IsReached g k
  jumped : (k l : ℕ) (block : Block) → IsReached g k → Has (targets g k) l → slice_get g l ≡ Some block → IsReached g l

-- one jump or more lead from block k to block l, and no block that they reach is a place
pub data Avoids (g : Graph) (is_place : ℕ → Bool) : ℕ → ℕ → Type 0 where
  one_jump : (k l : ℕ) → Has (targets g k) l → is_place l ≡ false → Avoids g is_place k l
  more_jumps : (k l m : ℕ) → Has (targets g k) l → is_place l ≡ false → Avoids g is_place l m → Avoids g is_place k m

-- a loop that is reached has no place
abbrev pub LeavesLoop : Graph → (ℕ → Bool) → Type 0
LeavesLoop g is_place = (k : ℕ) × IsReached g k × Avoids g is_place k k

abbrev pub HasUncutLoop : Graph → Type 0
HasUncutLoop g = LeavesLoop g (is_place g)
