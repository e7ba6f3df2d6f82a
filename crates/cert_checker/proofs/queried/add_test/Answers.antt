use Rattle.std.proofs.Common.{◌≡◌, inl, inr, ⊎_elim, Some, None, ap, sym, ◌∙◌}
use Rattle.std.proofs.lemmas.Option.{same_Some}
use Rattle.cert_checker.proofs.NamedTests.{one_added}
use Rattle.cert_checker.proofs.queried.add_test.Goals as goal

pub returns-in_ok-insert-in-Some : goal.returns-in_ok-insert-in-Some
returns-in_ok-insert-in-Some c = λ k.
    let t = c.in-Some.test in
    let made = one_added c.args.tests.now.keys c.insert.new.self.keys t c.in_ok-insert-in-Some.ensures.keys k in (
      (λ h. ⊎_elim inl (λ e. inr (c.in-Some.is ∙ ap Some e)) (made.0 h)),
      (λ h. made.1 (⊎_elim inl (λ e. inr (same_Some t k (sym c.in-Some.is ∙ e))) h)),
    )

pub returns-in-None : goal.returns-in-None
returns-in-None c = λ k. (inl, (λ h. ⊎_elim (λ o. o) (λ e. let f : None ≡ Some k = sym c.in-None.is ∙ e in absurd cc) h))
