use Rattle.std.proofs.Common.{◌≡◌, take, Some}
use Rattle.certificate.specs.PairParts.{PairParts}
use Rattle.cert_checker.proofs.NamedTests.{AddsOf}
use Rattle.cert_checker.proofs.queried.add_tests_of.Given as goal

abbrev pub invariant-loop-pair : goal.invariant-loop-pair
invariant-loop-pair l = AddsOf (λ (r : PairParts) k. r.test ≡ Some k) l.initial.tests.keys l.tests.keys (take l.pair-index l.pairs)
