use Rattle.std.proofs.Common.{◌≡◌, ◌+◌, ◌-◌, ℕ, length}
use Rattle.lrat_checker.specs.Working.Marks.{has_mark}
use Rattle.lrat_checker.proofs.falses.make_place.Given as goal

abbrev pub invariant-loop-marks : goal.invariant-loop-marks
invariant-loop-marks l = (j : ℕ) → has_mark l.marks.items j ≡ has_mark l.fn.marks.items j

abbrev pub decreases-loop-marks : goal.decreases-loop-marks
decreases-loop-marks l = l.place + 1 - length l.marks.items
