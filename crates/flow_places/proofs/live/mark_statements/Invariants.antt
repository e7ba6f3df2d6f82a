use Rattle.std.proofs.Common.{◌≡◌, ℕ, ◌<◌, false, length, map, slice_index_or}
use Rattle.flow_model.specs.Polish.{statement_of}
use Rattle.flow_ways.specs.Liveness.{live_before}
use Rattle.flow_places.proofs.live.mark_statements.Given as goal

-- what is live after the statements that are left
abbrev pub invariant-statements : goal.invariant-statements
invariant-statements l =
    record {
      width : length l.live ≡ length l.initial.live;
      live : (x : ℕ) → x < length l.initial.live → live_before x (map statement_of l.rest) (slice_index_or l.live x false) ≡ live_before x (map statement_of l.statements) (slice_index_or l.initial.live x false);
    }

abbrev pub decreases-statements : goal.decreases-statements
decreases-statements l = length l.rest
