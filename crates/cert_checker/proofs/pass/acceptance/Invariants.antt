use Rattle.std.proofs.Common.{drop}
use Rattle.cert_checker.proofs.SetAcceptances.{IsAccepting}
use Rattle.cert_checker.proofs.pass.acceptance.Given as goal

abbrev pub invariant-loop-number : goal.invariant-loop-number
invariant-loop-number l = IsAccepting l.fn.tables l.tables l.guard (drop l.number-index l.set) l.set
