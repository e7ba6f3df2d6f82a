use Rattle.std.proofs.Common.{◌≡◌, ◌↔◌, ◌⊎◌, ℕ, Option, Some, ap, subst}
use Rattle.kat_model.specs.Members.{Has}
use Rattle.certificate.specs.PairParts.{PairParts}
use Rattle.cert_checker.proofs.NamedTests.{of_none, of_more, of_all}
use Rattle.cert_checker.proofs.queried.add_tests_of.Goals as goal

pub loop-pair-init : goal.loop-pair-init
loop-pair-init c = of_none (λ (r : PairParts) k. r.test ≡ Some k) c.args.tests.now.keys

pub loop-pair-preserved : goal.loop-pair-preserved
loop-pair-preserved c =
    of_more (λ (r : PairParts) k. r.test ≡ Some k) c.args.tests.now.keys c.loop-pair.tests.keys c.add_test.new.tests.keys c.args.pairs.now c.loop-pair.pair-index c.pair-item.result c.loop-pair-test.true c.pair-item.is
    (subst (λ (o : Option ℕ). (k : ℕ) → Has c.add_test.new.tests.keys k ↔ (Has c.loop-pair.tests.keys k ⊎ (o ≡ Some k))) (ap (λ (r : PairParts). r.test) c.pair.view_is) c.in_ok-add_test.ensures) c.loop-pair.invariant

pub returns : goal.returns
returns c = of_all (λ (r : PairParts) k. r.test ≡ Some k) c.args.tests.now.keys c.loop-pair.tests.keys c.args.pairs.now c.loop-pair.pair-index c.loop-pair-test.false c.loop-pair.invariant
