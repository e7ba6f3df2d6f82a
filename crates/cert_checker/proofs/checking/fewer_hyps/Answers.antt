use Rattle.std.proofs.Common.{sym, ◌∙◌, subst}
use Rattle.std.specs.Option.{IfSome}
use Rattle.cert_checker.specs.Working.Relevant.{HasFewerHyps}
use Rattle.cert_checker.proofs.FewerHyps.{fewer_made, some_of_ok}
use Rattle.cert_checker.proofs.checking.fewer_hyps.Goals as goal

pub returns : goal.returns
returns c =
    let q = c.args.problem.now in
    let left = c.in_ok-left.left in
    let right = c.in_ok-right.right in
    let kept = c.in_ok-hyps.ensures in
    subst (λ o. IfSome o (HasFewerHyps q)) (sym c.ok.ensures.value)
    (some_of_ok c.new.result _ _
    (λ p made. fewer_made q p c.in_ok-hyps.hyps.items c.tests-2.result c.actions.result left right kept.longs kept.fewer c.tests-2.ensures.value c.actions.ensures.value (c.in_ok-left.ensures ∙ c.left.ensures.value) (c.in_ok-right.ensures ∙ c.right.ensures.value) made)
    c.new.ensures.made)
