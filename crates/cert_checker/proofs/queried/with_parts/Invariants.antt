use Rattle.std.proofs.Common.{reverse}
use Rattle.kat_model.proofs.NumberKeys.{bound_of}
use Rattle.cert_checker.proofs.QueriedTests.{IsQuerying}
use Rattle.cert_checker.proofs.queried.with_parts.Given as goal

abbrev pub invariant-loop-test : goal.invariant-loop-test
invariant-loop-test l = IsQuerying l.tables l.initial.tests.keys l.tests.keys (reverse l.queried.items)

-- the greatest pending test decreases
abbrev pub decreases-loop-test : goal.decreases-loop-test
decreases-loop-test l = bound_of l.tests.keys
