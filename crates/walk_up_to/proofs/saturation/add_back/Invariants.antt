use Rattle.walk_up_to.specs.Marks.{IsMade}
use Rattle.walk_up_to.proofs.saturation.add_back.Given as goal

abbrev pub invariant-loop-pair_side : goal.invariant-loop-pair_side
invariant-loop-pair_side l = IsMade l.listed.pairs l.initial.marked.marks l.marked.marks
