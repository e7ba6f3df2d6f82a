-- Live variables, as a test.
use Rattle.std.specs.Prelude.{ℕ, zero, suc, Bool, false, ◌||◌, length, Option, Some, None, slice_get}
use Rattle.std.specs.List.{list_any}
use Rattle.flow_model.specs.Graphs.{JumpTree, Block, Graph}
use Rattle.flow_ways.specs.Liveness.{live_before, jump_reads, jump_targets}

-- whether variable x is live before the jump of a block; `at_target` says whether it is live at a block
abbrev pub live_at_jump : ℕ → (ℕ → Bool) → JumpTree → Bool
live_at_jump x at_target jump = jump_reads x jump || list_any at_target (jump_targets jump)

abbrev pub live_at_block : ℕ → (ℕ → Bool) → Option Block → Bool
live_at_block x at_target None = false
live_at_block x at_target (Some block) = live_before x block.statements (live_at_jump x at_target block.jump)

-- whether variable x is read before it is set on a way from block k through at most n blocks
abbrev pub live_within : Graph → ℕ → ℕ → ℕ → Bool
live_within g x zero k = false
live_within g x (suc n) k = live_at_block x (live_within g x n) (slice_get g k)

-- whether variable x is live at block k; a shortest way to where it is read has each block at most once
abbrev pub live : Graph → ℕ → ℕ → Bool
live g k x = live_within g x (length g) k
