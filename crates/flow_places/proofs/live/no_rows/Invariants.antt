use Rattle.std.proofs.Common.{◌≡◌, ℕ, false, vec_len}
use Rattle.flow_places.specs.Tables.{noted}
use Rattle.flow_places.proofs.live.no_rows.Given as goal

abbrev pub invariant-loop-k : goal.invariant-loop-k
invariant-loop-k l =
    record {
      rows : vec_len l.table ≡ l._k;
      none : (x k : ℕ) → noted l.table.items x k ≡ false;
    }
