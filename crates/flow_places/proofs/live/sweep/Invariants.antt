use Rattle.std.proofs.Common.{◌≡◌, ℕ, ◌<◌, ◌-◌, false, length, vec_len}
use Rattle.flow_model.specs.Polish.{graph_of}
use Rattle.flow_places.specs.Tables.{noted, IsSwept}
use Rattle.flow_places.proofs.live.sweep.Given as goal

abbrev pub invariant-loop-step : goal.invariant-loop-step
invariant-loop-step l =
    record {
      rows : vec_len l.table ≡ vec_len l.initial.table;
      swept : (x : ℕ) → x < l.variables → IsSwept (graph_of l.blocks) x (length l.blocks - l.step) (noted l.initial.table.items x) (noted l.table.items x);
      unchanged : l.changed ≡ false → l.table.items ≡ l.initial.table.items;
    }
