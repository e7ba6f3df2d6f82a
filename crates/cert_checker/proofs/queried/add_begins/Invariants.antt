use Rattle.std.proofs.Common.{◌≡◌, ℕ, take}
use Rattle.cert_checker.proofs.NamedTests.{AddsOf}
use Rattle.cert_checker.proofs.queried.add_begins.Given as goal

abbrev pub invariant-loop-pair : goal.invariant-loop-pair
invariant-loop-pair l = AddsOf (λ (f : ℕ × ℕ) k. f.0 ≡ k) l.initial.tests.keys l.tests.keys (take l.pair-index l.forbidden)
