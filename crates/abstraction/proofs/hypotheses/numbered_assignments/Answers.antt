use Rattle.std.proofs.Common.{◌∙◌, ap}
use Rattle.std.specs.List.{enumerate_from}
use Rattle.std.proofs.lemmas.List.{take_all}
use Rattle.abstraction.proofs.NumberedRows.{enumerate_from-more}
use Rattle.abstraction.proofs.hypotheses.numbered_assignments.Goals as goal

pub loop-k-preserved : goal.loop-k-preserved
loop-k-preserved c =
    rw (c.in_ok-push.ensures.items, c.loop-k.invariant, ← c.tables.view_is, ← c.deref-assigned-items.ensures.value)
    (enumerate_from-more c.tables.inside.actions c.deref-assigned-items.result.now c.loop-k.k c.assigned-item.result c.loop-k-test.true c.assigned-item.is)

pub loop-k-init : goal.loop-k-init
loop-k-init c = c.new-rows.ensures.items

pub returns : goal.returns
returns c =
    c.loop-k.invariant
    ∙ ap (enumerate_from c.args.tables.now.actions)
    (rw (← c.tables.view_is, ← c.deref-assigned-items.ensures.value) (take_all c.loop-k.k c.deref-assigned-items.result.now c.loop-k-test.false))
