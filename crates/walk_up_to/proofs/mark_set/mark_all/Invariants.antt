use Rattle.std.proofs.Common.{◌≡◌, drop}
use Rattle.walk_up_to.specs.Marks.{with_marks, IsMore}
use Rattle.walk_up_to.proofs.mark_set.mark_all.Given as goal

abbrev pub invariant-loop-term : goal.invariant-loop-term
invariant-loop-term l = record {
  marks : with_marks l.marked.marks (drop l.term-index l.terms) ≡ with_marks l.initial.marked.marks l.terms;
  more : IsMore l.initial.marked l.marked l.grew;
}
