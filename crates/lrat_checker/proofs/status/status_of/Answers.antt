use Rattle.std.proofs.Common.{sym, subst, take}
use Rattle.std.proofs.lemmas.List.{take_more}
use Rattle.lrat_checker.specs.Working.Steps.{IsStatus}
use Rattle.lrat_checker.proofs.status.status_of.Goals as goal

pub loop-literal-preserved : goal.loop-literal-preserved
loop-literal-preserved c =
    let items = c.deref-literal-items.result.now in
    let i = c.loop-literal.literal-index in
    subst (λ done. IsStatus c.args.falses.now done c.with_literal-status.result) (sym (take_more items i _ c.loop-literal-test.true)) (c.with_literal-status.ensures (take i items) c.loop-literal.invariant)
