use Rattle.test_diagrams.proofs.Kept.{KeepsFunctions-trans}
use Rattle.partial_derivs.proofs.Items.{has_item}
use Rattle.partial_derivs.proofs.Under.{step_under}
use Rattle.partial_derivs.proofs.gathered.Gathered.add_under.Goals as goal

pub add_guarded-requires-clause-guarded : goal.add_guarded-requires-clause-guarded
add_guarded-requires-clause-guarded c =
    c.loop-guarded.invariant.kept.ids c.guarded-item.result.guard
    (c.requires.moves c.guarded-item.result (has_item c.args.moves.now c.loop-guarded.guarded-index c.guarded-item.result c.loop-guarded-test.true c.guarded-item.is))

pub loop-guarded-preserved : goal.loop-guarded-preserved
loop-guarded-preserved c =
    let before = c.loop-guarded.invariant in
    let added = c.in_ok-add_guarded.ensures in
    record {
      added = step_under _ _ _ _ _ _ c.args.moves.now c.loop-guarded.guarded-index c.guarded-item.result c.args.guard c.loop-guarded-test.true c.guarded-item.is
          c.requires.moves c.requires.guard before.kept before.added added.added added.kept;
      kept = KeepsFunctions-trans _ _ _ before.kept added.kept;
    }
