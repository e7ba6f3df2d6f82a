use Rattle.std.proofs.Common.{◌≡◌, ◌<◌, ℕ, take}
use Rattle.std.specs.List.{list_any}
use Rattle.kat_model.specs.Working.Decided.{same_step}
use Rattle.string_tables.specs.Working.Matrices.{entry}
use Rattle.string_tables.proofs.leaves.put_action.Given as goal

abbrev pub invariant-loop-step : goal.invariant-loop-step
invariant-loop-step l = record {
  given : (i j : ℕ) → i < l.table.states → j < l.table.states → entry l.m i j ≡ list_any (same_step (record { from = i; act = l.act; to = j })) (take l.step-index l.table.moves);
  size : l.m.size ≡ l.initial.m.size;
}
