use Rattle.cert_checker.proofs.KnownTruths.{IsEvaluating}
use Rattle.cert_checker.proofs.known.evaluate.Given as goal

abbrev pub invariant-loop-test : goal.invariant-loop-test
invariant-loop-test l = IsEvaluating l.first l.tables l.decided l.queried l.test-index l.initial.known l.known
