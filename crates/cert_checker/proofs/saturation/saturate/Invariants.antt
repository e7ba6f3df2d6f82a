use Rattle.std.proofs.Common.{◌-◌, ◌^◌, length}
use Rattle.cert_checker.specs.Working.Rounds.{counting_in}
use Rattle.cert_checker.proofs.Saturating.{AreBrought}
use Rattle.cert_checker.proofs.saturation.saturate.Given as goal

abbrev pub invariant-loop-reached : goal.invariant-loop-reached
invariant-loop-reached l = AreBrought (counting_in l.counted) l.from l.reached.keys

abbrev pub decreases-loop-reached : goal.decreases-loop-reached
decreases-loop-reached l = 2 ^ 64 - length l.reached.keys
