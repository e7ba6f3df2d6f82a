use Rattle.std.proofs.Common.{◌≡◌, ◌<◌, ℕ, false, length, take, slice_index_or}
use Rattle.std.specs.List.{list_any}
use Rattle.string_tables.proofs.Images.{goes}
use Rattle.string_tables.proofs.leaves.follow_action.Given as goal

-- the moves so far that lead from a state of the row
abbrev pub invariant-loop-step : goal.invariant-loop-step
invariant-loop-step l = record {
  given : (j : ℕ) → j < l.table.states → slice_index_or l.to j false ≡ list_any (goes l.table.states l.row l.act j) (take l.step-index l.table.moves);
  width : length l.to ≡ length l.initial.to;
}
