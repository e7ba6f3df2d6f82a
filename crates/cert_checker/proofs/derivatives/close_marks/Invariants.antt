use Rattle.cert_checker.proofs.ClosingMarks.{IsClosing}
use Rattle.cert_checker.proofs.derivatives.close_marks.Given as goal

abbrev pub invariant-loop-term : goal.invariant-loop-term
invariant-loop-term l = IsClosing l.tables l.term l.initial.marks l.marks
