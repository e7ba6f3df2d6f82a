use Rattle.std.proofs.Common.{take}
use Rattle.cert_checker.specs.Working.Rounds.{AreAdded}
use Rattle.cert_checker.proofs.saturation.add_all.Given as goal

abbrev pub invariant-loop-term : goal.invariant-loop-term
invariant-loop-term l = AreAdded (take l.term-index l.set) l.initial.reached.keys l.reached.keys
