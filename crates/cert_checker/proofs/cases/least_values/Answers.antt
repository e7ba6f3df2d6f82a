use Rattle.std.proofs.Common.{Bool, Option, false, unwrap_or, ◌++◌, ◌∷◌, [], take, sym, ap, ◌∙◌}
use Rattle.std.proofs.lemmas.List.{map-append, take_all, take_more}
use Rattle.cert_checker.specs.LeastFailures.{least_of}
use Rattle.cert_checker.proofs.cases.least_values.Goals as goal

pub loop-value-preserved : goal.loop-value-preserved
loop-value-preserved c =
    let ds = c.args.decided.now in
    let i = c.loop-value.value-index in
    c.in_ok-push.ensures.items ∙ (λ j. c.loop-value.invariant j ++ c.unwrap_or.ensures j ∷ [])
    ∙ sym (ap least_of (take_more ds i _ c.loop-value-test.true) ∙ map-append (λ (d : Option Bool). unwrap_or d false) (take i ds) _)

pub returns : goal.returns
returns c = c.loop-value.invariant ∙ ap least_of (take_all c.loop-value.value-index c.args.decided.now c.loop-value-test.false)
