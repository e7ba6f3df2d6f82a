use Rattle.std.proofs.Common.{◌≡◌, ◌≤◌, ◌-◌, ℕ, true, false, length, get_or}
use Rattle.walk_up_to.proofs.mark_set.set_count.Given as goal

abbrev pub invariant-loop-marks : goal.invariant-loop-marks
invariant-loop-marks l = record {
  few : length l.marks.items ≤ l.count;
  before : (j : ℕ) → get_or l.marks.items j false ≡ true → get_or l.fn.marks.items j false ≡ true;
}

abbrev pub decreases-loop-marks : goal.decreases-loop-marks
decreases-loop-marks l = l.count - length l.marks.items
