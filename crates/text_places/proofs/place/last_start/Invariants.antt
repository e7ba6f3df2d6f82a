use Rattle.std.proofs.Common.{◌≡◌, ◌≤◌, ◌+◌, length, take, not}
use Rattle.std.specs.List.{suffix_len}
use Rattle.text_places.specs.Places.{is_feed}
use Rattle.text_places.proofs.place.last_start.Given as goal

abbrev pub invariant-loop-start : goal.invariant-loop-start
invariant-loop-start l = (l.start ≤ length l.bytes) × (l.start + suffix_len (λ x. not (is_feed x)) l.bytes ≡ length l.bytes + suffix_len (λ x. not (is_feed x)) (take l.start l.bytes))

abbrev pub decreases-loop-start : goal.decreases-loop-start
decreases-loop-start l = l.start
