use Rattle.std.proofs.Common.{◌≡◌, ℕ, ◌<◌, ◌≤◌, false, ◌||◌, slice_index_or}
use Rattle.flow_places.proofs.live.join.Given as goal

abbrev pub invariant-loop-k : goal.invariant-loop-k
invariant-loop-k l =
    record {
      joined : (x : ℕ) → x < l.k → slice_index_or l.live x false ≡ (slice_index_or l.initial.live x false || slice_index_or l.other x false);
      later : (x : ℕ) → l.k ≤ x → slice_index_or l.live x false ≡ slice_index_or l.initial.live x false;
    }
