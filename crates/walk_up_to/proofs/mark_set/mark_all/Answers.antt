use Rattle.std.proofs.Common.{refl, sym, ◌∙◌, arith}
use Rattle.std.proofs.lemmas.List.{at_drop_all}
use Rattle.walk_up_to.specs.Marks.{with_marks}
use Rattle.walk_up_to.proofs.Closures.{more_itself}
use Rattle.walk_up_to.proofs.mark_set.mark_all.Goals as goal

pub loop-term-init : goal.loop-term-init
loop-term-init c = record { marks = refl; more = more_itself c.args.marked.now }

pub returns-clause-marks : goal.returns-clause-marks
returns-clause-marks c = sym (at_drop_all (with_marks c.loop-term.marked.marks) c.args.terms.now c.loop-term.term-index (omega arith)) ∙ c.loop-term.invariant.marks

pub returns-clause-more : goal.returns-clause-more
returns-clause-more c = c.loop-term.invariant.more
