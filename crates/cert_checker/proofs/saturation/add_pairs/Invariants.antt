use Rattle.std.proofs.Common.{take}
use Rattle.cert_checker.specs.Working.Rounds.{GoesOn, AreTendedAt, counting_in}
use Rattle.cert_checker.proofs.saturation.add_pairs.Given as goal

abbrev pub invariant-loop-place : goal.invariant-loop-place
invariant-loop-place l = record {
  goes : GoesOn (counting_in l.counted) l.initial.reached.keys l.reached.keys;
  tended : AreTendedAt l.counted.action_pass.now.pairs l.counted.also_open l.counted.known.now l.initial.reached.keys l.reached.keys (take l.place-index l.place-items);
}
