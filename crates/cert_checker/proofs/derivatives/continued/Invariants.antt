use Rattle.cert_checker.proofs.AddingTargets.{IsFollowing}
use Rattle.cert_checker.proofs.derivatives.continued.Given as goal

abbrev pub invariant-loop-term : goal.invariant-loop-term
invariant-loop-term l = IsFollowing l.initial.tables l.tables l.after l.targets.entries l.term-iterator l.first.entries
