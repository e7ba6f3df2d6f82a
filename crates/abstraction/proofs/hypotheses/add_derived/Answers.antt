use Rattle.std.proofs.Common.{◌∙◌, refl}
use Rattle.std.proofs.lemmas.Result.{on_ok_weaker}
use Rattle.abstraction.proofs.hypotheses.add_derived.Goals as goal

pub returns : goal.returns
returns c =
    on_ok_weaker c.add_facts.result
    (λ e. e ∙ rw (c.deref.ensures.value, c.deref-2.ensures.value, c.in_ok-actions.ensures, c.in_ok-rows.ensures) refl)
    c.add_facts.ensures
