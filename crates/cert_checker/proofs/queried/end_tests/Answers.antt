use Rattle.std.proofs.Common.{◌≡◌, ℕ, inl, inr, ⊎_elim, refl, subst}
use Rattle.std.proofs.lemmas.Result.{IfOk-weaker}
use Rattle.cert_checker.specs.NodeTables.{IsTest}
use Rattle.cert_checker.proofs.NamedTests.{of_empty}
use Rattle.cert_checker.proofs.queried.end_tests.Goals as goal

pub with_parts-requires : goal.with_parts-requires
with_parts-requires c = λ k h.
    ⊎_elim
    (λ was.
    let m = of_empty (λ (f : ℕ × ℕ) k. f.1 ≡ k) c.new-tests.result.keys c.add_ends.new.tests.keys c.args.forbidden.now c.new-tests.ensures.empty c.in_ok-add_ends.ensures k was in
    subst (IsTest c.args.tables.now) m.2 (c.requires.moves m.0 m.1))
    (λ m. c.requires.pairs m.0 k m.1 m.2)
    ((c.in_ok-add_tests_of.ensures k).0 h)

pub returns-clause-by_moves : goal.returns-clause-by_moves
returns-clause-by_moves c =
    IfOk-weaker c.with_parts.result _ _ (λ v kept f h. kept f.1 ((c.in_ok-add_tests_of.ensures f.1).1 (inl ((c.in_ok-add_ends.ensures f.1).1 (inr (f, h, refl)))))) c.with_parts.ensures.kept

pub returns-clause-by_pairs : goal.returns-clause-by_pairs
returns-clause-by_pairs c = IfOk-weaker c.with_parts.result _ _ (λ v kept r k h e. kept k ((c.in_ok-add_tests_of.ensures k).1 (inr (r, h, e)))) c.with_parts.ensures.kept
