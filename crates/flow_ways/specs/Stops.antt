-- Runs from place to place.
use Rattle.std.specs.Prelude.{◌≡◌, ℕ, zero, suc, Bool, List, map, Option, Some, None, slice_get, if◌then◌else◌}
use Rattle.flow_model.specs.declared.sort.Sort.{Sort}
use Rattle.flow_model.specs.Sorts.{State}
use Rattle.flow_model.specs.Graphs.{JumpTree, goto, branch, return, abort, Block, Graph}
use Rattle.flow_model.specs.Interpretations.{Interpretation, value, holds}
use Rattle.flow_model.specs.Runs.{after_statements}
use Rattle.flow_forms.specs.Values.{form_value}
use Rattle.flow_ways.specs.Ways.{WayEnd, at_place, at_return, state_of}

-- how a run that leaves a place goes on: it reaches a place, returns, gets stuck, or is not there within the number of
-- blocks
pub data Stop : Type 0 where
  came_to : (block : ℕ) (s : State) → Stop
  returned : (values : List ℕ) → Stop
  stuck : Stop
  unfinished : Stop

abbrev pub jump_stop : Interpretation → (ℕ → State → Stop) → JumpTree → State → Stop
jump_stop I go (goto k) s = go k s
jump_stop I go (branch b k l) s = go (if holds I s b then k else l) s
jump_stop I go (return es) s = returned (map (value I s) es)
jump_stop I go abort s = stuck

abbrev pub jump_stop_if : Interpretation → (ℕ → State → Stop) → JumpTree → Option State → Stop
jump_stop_if I go jump None = stuck
jump_stop_if I go jump (Some s) = jump_stop I go jump s

abbrev pub block_stop : Interpretation → (ℕ → State → Stop) → Option Block → State → Stop
block_stop I go None s = stuck
block_stop I go (Some block) s = jump_stop_if I go block.jump (after_statements I s block.statements)

-- where the run from the beginning of block k in state s ends within n blocks
abbrev pub stop_from : Interpretation → Graph → (ℕ → Bool) → ℕ → ℕ → State → Stop
stop_from I g is_place zero k s = unfinished
stop_from I g is_place (suc n) k s =
    block_stop I (λ l t. if is_place l then came_to l t else stop_from I g is_place n l t) (slice_get g k) s

-- the end of a way from the state `s` is the end of the run
abbrev pub EndsAs : Interpretation → State → List Sort → WayEnd → Stop → Type 0
EndsAs I s sorts (at_place k forms) (came_to l t) = (k ≡ l) × (state_of I s sorts forms ≡ t)
EndsAs I s sorts (at_return results) (returned vs) = map (λ r. form_value I s r.0 r.1) results ≡ vs
EndsAs I s sorts end stop = ⊥

-- the run reaches a place or returns
abbrev pub IsSettled : Stop → Type 0
IsSettled (came_to k s) = Unit {0}
IsSettled (returned vs) = Unit {0}
IsSettled stop = ⊥
