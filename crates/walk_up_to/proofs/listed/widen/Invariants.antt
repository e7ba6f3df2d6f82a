use Rattle.std.proofs.Common.{◌+◌, ◌-◌, length}
use Rattle.walk_up_to.specs.Marks.{Stays}
use Rattle.walk_up_to.proofs.listed.widen.Given as goal

abbrev pub invariant-loop-marks : goal.invariant-loop-marks
invariant-loop-marks l = Stays l.fn.marks.items l.marks.items

abbrev pub decreases-loop-marks : goal.decreases-loop-marks
decreases-loop-marks l = l.number + 1 - length l.marks.items
