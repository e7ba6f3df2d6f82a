use Rattle.std.proofs.Common.{◌≡◌, drop}
use Rattle.walk_up_to.specs.Marks.{without_marks}
use Rattle.walk_up_to.proofs.mark_set.unmark_all.Given as goal

abbrev pub invariant-loop-term : goal.invariant-loop-term
invariant-loop-term l = without_marks l.marks (drop l.term-index l.terms) ≡ without_marks l.initial.marks l.terms
