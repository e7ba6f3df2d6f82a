use Rattle.std.proofs.Common.{◌≡◌, ℕ}
use Rattle.cert_checker.proofs.NamedTests.{one_added, of_none, of_next, of_all}
use Rattle.cert_checker.proofs.queried.add_begins.Goals as goal

pub loop-pair-init : goal.loop-pair-init
loop-pair-init c = of_none (λ (f : ℕ × ℕ) k. f.0 ≡ k) c.args.tests.now.keys

pub loop-pair-preserved : goal.loop-pair-preserved
loop-pair-preserved c =
    of_next (λ (f : ℕ × ℕ) k. f.0 ≡ k) c.args.tests.now.keys c.loop-pair.tests.keys c.insert.new.self.keys c.args.forbidden.now c.loop-pair.pair-index (0, 0) c.loop-pair-test.true
    (one_added c.loop-pair.tests.keys c.insert.new.self.keys _ c.in_ok-insert.ensures.keys) c.loop-pair.invariant

pub returns : goal.returns
returns c = of_all (λ (f : ℕ × ℕ) k. f.0 ≡ k) c.args.tests.now.keys c.loop-pair.tests.keys c.args.forbidden.now c.loop-pair.pair-index c.loop-pair-test.false c.loop-pair.invariant
