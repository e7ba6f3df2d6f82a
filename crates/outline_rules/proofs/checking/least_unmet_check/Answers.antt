use Rattle.outline_rules.specs.declared.moments.Moment.TheVariants.{Before}
use Rattle.outline_rules.proofs.StepSets.{KeepsSteps-trans}
use Rattle.outline_rules.specs.NoteLists.{note_holds}
use Rattle.outline_rules.proofs.NodeSets.{moment_sets_kept}
use Rattle.outline_rules.proofs.LeastTargets.{least_next}
use Rattle.outline_rules.proofs.checking.least_unmet_check.Goals as goal

pub loop-check-preserved : goal.loop-check-preserved
loop-check-preserved c = record {
  least =
      least_next c.args.problem.now (note_holds c.args.notes.now) c.args.checks.now c.loop-check.check-index c.check-item.result c.in_ok-met.met c.loop-check.least c.target_unless.result c.lesser-least.result c.target.result
      c.loop-check-test.true c.check-item.is c.target.ensures c.target_unless.ensures c.lesser-least.ensures c.loop-check.invariant.least c.in_ok-met.ensures.met;
  before = moment_sets_kept c.loop-check.diagrams c.is_met.new.diagrams Before c.args.problem.now.hyps c.args.notes.now c.args.before.now c.in_ok-met.ensures.kept c.loop-check.invariant.before;
  kept = KeepsSteps-trans _ _ _ c.loop-check.invariant.kept c.in_ok-met.ensures.kept;
}
