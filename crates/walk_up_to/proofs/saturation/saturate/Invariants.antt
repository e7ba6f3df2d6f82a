use Rattle.walk_up_to.specs.Marks.{IsMade, unmarked}
use Rattle.walk_up_to.proofs.saturation.saturate.Given as goal

abbrev pub invariant-loop-marked : goal.invariant-loop-marked
invariant-loop-marked l = IsMade l.listed.pairs l.fn.marked.marks l.marked.marks

-- each round except the last marks a term
abbrev pub decreases-loop-marked : goal.decreases-loop-marked
decreases-loop-marked l = unmarked l.marked.marks
