use Rattle.std.proofs.Common.{◌≡◌, ◌<◌, arith}
use Rattle.outline_rules.proofs.StepSets.{KeepsSteps-trans}
use Rattle.outline_rules.proofs.HypothesisSets.{ruled_out_more}
use Rattle.outline_rules.proofs.hypotheses.ruled_out_steps.Goals as goal

pub loop-hyp-preserved : goal.loop-hyp-preserved
loop-hyp-preserved c = record {
  function = ruled_out_more c.loop-hyp.diagrams c.steps_ruled_out_by.new.diagrams c.or.new.self c.args.hyps.now c.loop-hyp.hyp-index c.hyp-item.result c.args.action c.loop-hyp.steps c.in_ok-more.more c.in_ok-steps.steps
      c.in_ok-more.ensures.kept c.in_ok-steps.ensures.kept (omega arith) c.hyp-item.is c.loop-hyp.invariant.function c.in_ok-more.ensures.function c.in_ok-steps.ensures.function;
  kept = KeepsSteps-trans _ _ _ c.loop-hyp.invariant.kept (KeepsSteps-trans _ _ _ c.in_ok-more.ensures.kept c.in_ok-steps.ensures.kept);
  sound = c.in_ok-steps.ensures.sound;
}
