use Rattle.std.proofs.Common.{◌≡◌, ℕ, inr, refl, subst}
use Rattle.std.proofs.lemmas.Result.{IfOk-weaker}
use Rattle.cert_checker.specs.NodeTables.{IsTest}
use Rattle.cert_checker.proofs.NamedTests.{of_empty}
use Rattle.cert_checker.proofs.queried.begin_tests.Goals as goal

pub with_parts-requires : goal.with_parts-requires
with_parts-requires c = λ k h.
    let m = of_empty (λ (f : ℕ × ℕ) k. f.0 ≡ k) c.new-tests.result.keys c.add_begins.new.tests.keys c.args.forbidden.now c.new-tests.ensures.empty c.in_ok-add_begins.ensures k h in
    subst (IsTest c.args.tables.now) m.2 (c.requires m.0 m.1)

pub returns-clause-named : goal.returns-clause-named
returns-clause-named c = IfOk-weaker c.with_parts.result _ _ (λ v kept f h. kept f.0 ((c.in_ok-add_begins.ensures f.0).1 (inr (f, h, refl)))) c.with_parts.ensures.kept
