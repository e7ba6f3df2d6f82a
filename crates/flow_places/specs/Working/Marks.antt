-- Rows of marks of variables, and tables of such rows, before and after a call.
use Rattle.std.specs.Prelude.{◌≡◌, ◌≢◌, ◌<◌, ◌&&◌, ◌||◌, not, ℕ, Bool, false, List, length, map, slice_index_or, Some, Result, IfOk, Vec}
use Rattle.std.specs.declared.alloc.Global.{Global}
use Rattle.flow_model.specs.declared.graph.Block.{Block}
use Rattle.flow_model.specs.declared.graph.Jump.{Jump}
use Rattle.flow_model.specs.declared.graph.Statement.{Statement}
use Rattle.flow_model.specs.Polish.{statement_of, jump_of, block_of, graph_of}
use Rattle.flow_ways.specs.Liveness.{live_before}
use Rattle.flow_places.specs.Live.{live_at_jump, live_at_block}
use Rattle.flow_places.specs.Tables.{noted, IsSwept}

abbrev pub is_marked : List Bool → ℕ → Bool
is_marked marks x = slice_index_or marks x false

-- each mark of a row is what a function gives
abbrev pub Becomes : List Bool → List Bool → (ℕ → Bool) → Type 0
Becomes old new marks = (x : ℕ) → x < length old → slice_index_or new x false ≡ marks x

-- some variables are marked besides those that were, or no longer
abbrev pub Marks : List Bool → List Bool → (ℕ → Bool) → Type 0
Marks old new more = (x : ℕ) → x < length old → slice_index_or new x false ≡ (more x || slice_index_or old x false)

abbrev pub Unmarks : List Bool → List Bool → (ℕ → Bool) → Type 0
Unmarks old new less = (x : ℕ) → slice_index_or new x false ≡ (not (less x) && slice_index_or old x false)

-- ---- what is live before a jump, statements and a block

abbrev pub live_at : List (Vec Bool Global) → Jump → ℕ → Bool
live_at table jump x = live_at_jump x (noted table x) (jump_of jump)

abbrev pub live_over : List Statement → List Bool → ℕ → Bool
live_over statements live x = live_before x (map statement_of statements) (slice_index_or live x false)

abbrev pub live_in : List (Vec Bool Global) → Block → ℕ → Bool
live_in table block x = live_at_block x (noted table x) (Some (block_of block))

-- ---- rows of tables

-- what is live in a block, and what is noted for it already
abbrev pub live_or_noted : List (Vec Bool Global) → Block → ℕ → ℕ → Bool
live_or_noted table block number x = live_in table block x || noted table x number

abbrev pub HasMarks : ℕ → (ℕ → Bool) → Vec Bool Global → Type 0
HasMarks variables marks row = (x : ℕ) → x < variables → slice_index_or row.items x false ≡ marks x

abbrev pub IsUpdated : ℕ → Block → ℕ → Vec (Vec Bool Global) Global → Vec (Vec Bool Global) Global → Type 0
IsUpdated variables block number old new = (x : ℕ) → x < variables → noted new.items x number ≡ live_or_noted old.items block number x

abbrev pub IsKeptBut : ℕ → Vec (Vec Bool Global) Global → Vec (Vec Bool Global) Global → Type 0
IsKeptBut number old new = (x k : ℕ) → k ≢ number → noted new.items x k ≡ noted old.items x k

abbrev pub AreSwept : List Block → ℕ → Vec (Vec Bool Global) Global → Vec (Vec Bool Global) Global → Type 0
AreSwept blocks variables old new = (x : ℕ) → x < variables → IsSwept (graph_of blocks) x 0 (noted old.items x) (noted new.items x)

-- a call that reports no change has made none
abbrev pub ReportsChange : {E : Type 0} → Result Bool E → Vec (Vec Bool Global) Global → Vec (Vec Bool Global) Global → Type 0
ReportsChange result old new = IfOk result (λ changed. changed ≡ false → new.items ≡ old.items)
