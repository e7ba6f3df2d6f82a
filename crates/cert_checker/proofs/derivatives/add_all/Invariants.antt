use Rattle.cert_checker.proofs.AddingTargets.{IsAdding}
use Rattle.cert_checker.proofs.derivatives.add_all.Given as goal

abbrev pub invariant-loop-term : goal.invariant-loop-term
invariant-loop-term l = IsAdding l.initial.tables l.tables l.initial.targets.entries l.targets.entries l.term-iterator l.more.entries l.guard
