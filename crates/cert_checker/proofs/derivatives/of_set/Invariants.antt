use Rattle.std.proofs.Common.{drop}
use Rattle.cert_checker.proofs.StepLists.{IsGathering}
use Rattle.cert_checker.proofs.derivatives.of_set.Given as goal

abbrev pub invariant-loop-number : goal.invariant-loop-number
invariant-loop-number l = IsGathering l.fn.tables l.tables l.fn.action l.always l.targets.entries (drop l.number-index l.set) l.set
