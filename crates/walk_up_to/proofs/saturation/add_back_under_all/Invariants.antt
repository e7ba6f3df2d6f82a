use Rattle.walk_up_to.specs.Marks.{IsMade}
use Rattle.walk_up_to.proofs.saturation.add_back_under_all.Given as goal

abbrev pub invariant-loop-term : goal.invariant-loop-term
invariant-loop-term l = IsMade l.listed.pairs l.initial.marked.marks l.marked.marks
