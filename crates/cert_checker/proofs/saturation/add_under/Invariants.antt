use Rattle.cert_checker.specs.Working.Rounds.{GoesOn, counting_in}
use Rattle.cert_checker.proofs.saturation.add_under.Given as goal

abbrev pub invariant-loop-term : goal.invariant-loop-term
invariant-loop-term l = GoesOn (counting_in l.counted) l.initial.reached.keys l.reached.keys
