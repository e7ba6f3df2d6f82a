use Rattle.std.proofs.Common.{◌≡◌, ℕ, ◌<◌, length, vec_len}
use Rattle.flow_model.specs.Polish.{graph_of}
use Rattle.flow_places.specs.Tables.{noted, IsNoted}
use Rattle.flow_places.proofs.live.live_sets.Given as goal

abbrev pub invariant-loop-round : goal.invariant-loop-round
invariant-loop-round l =
    record {
      rows : vec_len l.table ≡ length l.blocks;
      live : (x : ℕ) → x < l.variables → IsNoted (graph_of l.blocks) x l._round (noted l.table.items x);
    }
