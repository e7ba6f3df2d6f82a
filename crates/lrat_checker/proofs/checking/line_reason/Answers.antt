use Rattle.std.proofs.Common.{◌≡◌, ◌<◌, ◌++◌, List, ℕ, ap, sym, subst, ◌∙◌, arith, Option}
use Rattle.std.proofs.lemmas.Result.{IfOk-weaker}
use Rattle.lrat_checker.specs.Working.Steps.{IsHintsVerdict, IsVerdict}
use Rattle.lrat_checker.specs.declared.literal.Literal.{Literal}
use Rattle.lrat_checker.specs.declared.answer.Reason.{Reason}
use Rattle.lrat_checker.proofs.LineSteps.{verdict_of_hints}
use Rattle.lrat_checker.proofs.checking.line_reason.Goals as goal

pub returns-in_ok-add_all-in-Addition : goal.returns-in_ok-add_all-in-Addition
returns-in_ok-add_all-in-Addition c = λ k knows.
    let clause = c.in-Addition.clause in
    let hints = c.in-Addition.hints in
    let r = c.in-Addition.resolvents in
    let falses : c.add_all.new.self ≡ clause =
    c.in_ok-add_all-in-Addition.ensures ∙ ap (λ (ls : List Literal). ls ++ c.deref.result.now) c.clear.ensures ∙ c.deref.ensures.value ∙ c.clause.view_is in
    let listed : c.deref-in-Addition.result.now ≡ hints = c.deref-in-Addition.ensures.value ∙ c.hints.view_is in
    let new : k.greatest < c.in-Addition.id = omega (arith, c.if-id-greatest.false, c.greatest.ensures, knows.greatest) in
    let given = c.hints_reason.ensures k knows in
    IfOk-weaker c.hints_reason.result _ _
    (λ (v : Option Reason) verdict. subst (λ line. IsVerdict k line v) (sym c.in-Addition.is) (verdict_of_hints k c.in-Addition.id clause hints r new v (subst (λ (hs : List ℕ). IsHintsVerdict k.known clause hs r v) listed (subst (λ (ls : List Literal). IsHintsVerdict k.known ls c.deref-in-Addition.result.now r v) falses verdict))))
    given
