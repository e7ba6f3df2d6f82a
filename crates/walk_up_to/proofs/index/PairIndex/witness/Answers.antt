use Rattle.std.proofs.Common.{sym, subst}
use Rattle.kat_model.specs.Members.{Has}
use Rattle.partial_derivs.proofs.Items.{has_item}
use Rattle.walk_up_to.proofs.index.PairIndex.witness.Goals as goal
use Rattle.walk_up_to.proofs.index.PairIndex.witness.Goals.{then-is_better, else-is_better}

pub loop-term-preserved : goal.loop-term-preserved
loop-term-preserved c = elim c.if-is_better.branch [
  | then-is_better w ↦ subst (Has c.args.set.now) (sym w.witness-is) (has_item c.args.set.now c.loop-term.term-index c.term-item.result c.loop-term-test.true c.term-item.is)
  | else-is_better w ↦ subst (Has c.args.set.now) (sym w.witness-is) c.loop-term.invariant
]
