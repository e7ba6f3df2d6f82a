use Rattle.cert_checker.proofs.SideTurns.{IsSideOf}
use Rattle.cert_checker.proofs.sides.side_of.Given as goal

abbrev pub invariant-loop-term : goal.invariant-loop-term
invariant-loop-term l = IsSideOf l.known l.others.entries l.targets.entries l.term-iterator l.side.sure.items l.side.alone.items l.side.alone_waits l.side.waits
