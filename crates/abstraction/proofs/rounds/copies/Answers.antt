use Rattle.std.proofs.Common.{◌∙◌}
use Rattle.std.proofs.lemmas.List.{take_all}
use Rattle.abstraction.proofs.GatheredRows.{taken_more}
use Rattle.abstraction.proofs.rounds.copies.Goals as goal

pub loop-atomic-init : goal.loop-atomic-init
loop-atomic-init c = c.new-list.ensures.items

pub loop-atomic-preserved : goal.loop-atomic-preserved
loop-atomic-preserved c =
    rw (c.in_ok-push.ensures.items, c.loop-atomic.invariant, c.in_ok-copy.ensures)
    (taken_more c.args.atomics.now c.loop-atomic.atomic-index c.atomic-item.result c.loop-atomic-test.true c.atomic-item.is)

pub returns : goal.returns
returns c = c.loop-atomic.invariant ∙ take_all c.loop-atomic.atomic-index c.args.atomics.now c.loop-atomic-test.false
