use Rattle.std.proofs.Common.{◌≡◌, take}
use Rattle.cert_checker.specs.LeastFailures.{least_of}
use Rattle.cert_checker.proofs.cases.least_values.Given as goal

abbrev pub invariant-loop-value : goal.invariant-loop-value
invariant-loop-value l = l.values.items ≡ least_of (take l.value-index l.decided)
