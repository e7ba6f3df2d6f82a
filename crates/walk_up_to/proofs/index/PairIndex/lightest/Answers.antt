use Rattle.std.proofs.Common.{◌-◌, length, sym, subst}
use Rattle.kat_model.specs.Members.{Has}
use Rattle.kat_model.proofs.Places.{has_at}
use Rattle.partial_derivs.proofs.Items.{has_item}
use Rattle.walk_up_to.proofs.index.PairIndex.lightest.Goals as goal
use Rattle.walk_up_to.proofs.index.PairIndex.lightest.Goals.{then-is_lighter, else-is_lighter}

pub loop-term-init : goal.loop-term-init
loop-term-init c = has_at c.args.set.now (length c.args.set.now - 1) c.in_ok-lightest.field-0.now (sym c.in_ok-lightest.ensures.value)

pub loop-term-preserved : goal.loop-term-preserved
loop-term-preserved c = elim c.if-is_lighter.branch [
  | then-is_lighter w ↦ subst (Has c.args.set.now) (sym w.lightest-is) (has_item c.args.set.now c.loop-term.term-index c.term-item.result c.loop-term-test.true c.term-item.is)
  | else-is_lighter w ↦ subst (Has c.args.set.now) (sym w.lightest-is) c.loop-term.invariant
]
