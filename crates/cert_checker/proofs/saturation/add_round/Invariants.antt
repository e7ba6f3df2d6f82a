use Rattle.std.proofs.Common.{◌-◌, ◌^◌}
use Rattle.cert_checker.specs.Working.Rounds.{GoesOn, counting_in}
use Rattle.cert_checker.proofs.Saturating.{AreTendedTo}
use Rattle.cert_checker.proofs.saturation.add_round.Given as goal

abbrev pub invariant-loop-place : goal.invariant-loop-place
invariant-loop-place l = record {
  goes : GoesOn (counting_in l.counted) l.initial.reached.keys l.reached.keys;
  tended : AreTendedTo l.counted.action_pass.now.pairs l.counted.also_open l.counted.known.now l.counted.action_pass.now.index l.place l.initial.reached.keys l.reached.keys;
}

abbrev pub decreases-loop-place : goal.decreases-loop-place
decreases-loop-place l = 2 ^ 64 - l.place
