use Rattle.std.proofs.Common.{ℕ, List, inl, inr, ⊎_elim, subst}
use Rattle.std.proofs.lemmas.Result.{IfOk-weaker}
use Rattle.kat_model.specs.Members.{Has}
use Rattle.cert_checker.specs.NodeTables.{IsTest}
use Rattle.cert_checker.proofs.question.named_tests.Goals as goal

pub with_parts-requires : goal.with_parts-requires
with_parts-requires c = λ k h.
    let t = c.args.tables.now in
    ⊎_elim
    (λ m. ⊎_elim
    (λ n. ⊎_elim (λ o. absurd (subst (λ (l : List ℕ). Has l k) c.new-named.ensures.empty o)) (c.requires.pair_test k) ((c.in_ok-add_test.ensures k).0 n))
    (λ w. subst (IsTest t) w.2 (c.requires.left w.0 w.1).1)
    ((c.in_ok-add_guards.ensures k).0 m))
    (λ w. subst (IsTest t) w.2 (c.requires.right w.0 w.1).1)
    ((c.in_ok-add_guards-2.ensures k).0 h)

pub returns-clause-queried : goal.returns-clause-queried
returns-clause-queried c = c.with_parts.ensures.queried

pub returns-clause-named : goal.returns-clause-named
returns-clause-named c =
    IfOk-weaker c.with_parts.result _ _
    (λ v kept k h. kept k (
    let own = c.in_ok-add_test.ensures k in
    let lefts = c.in_ok-add_guards.ensures k in
    let rights = c.in_ok-add_guards-2.ensures k in
    ⊎_elim
    (λ e. rights.1 (inl (lefts.1 (inl (own.1 (inr e))))))
    (λ w. ⊎_elim (λ a. rights.1 (inl (lefts.1 (inr (w.0, a, w.2))))) (λ b. rights.1 (inr (w.0, b, w.2))) w.1)
    h
    ))
    c.with_parts.ensures.kept
