use Rattle.std.proofs.Common.{◌≡◌, ◌+◌, ◌<◌, suc, ap, arith}
use Rattle.outline_rules.specs.StepFunctions.{StepDiagramsParts}
use Rattle.outline_rules.proofs.StepSets.{KeepsSteps-trans}
use Rattle.outline_rules.proofs.Images.{moved_more, moved_all}
use Rattle.outline_rules.proofs.steps.StepDiagrams.moved_before.Goals as goal

pub loop-test-preserved : goal.loop-test-preserved
loop-test-preserved c = record {
  function = moved_more c.args.self.now c.loop-test.self c.test_moved_before.new.self c.loop-test.test (c.loop-test.test + 1) c.args.set c.loop-test.moved c.in_ok-moved.moved c.loop-test.invariant.kept c.in_ok-moved.ensures.kept (omega arith) (omega (arith, ap (λ (d : StepDiagramsParts). d.tests) c.self.view_is)) c.loop-test.invariant.function c.in_ok-moved.ensures.function;
  kept = KeepsSteps-trans _ _ _ c.loop-test.invariant.kept c.in_ok-moved.ensures.kept;
  sound = c.in_ok-moved.ensures.sound;
}

pub returns-clause-function : goal.returns-clause-function
returns-clause-function c =
    moved_all c.args.self.now c.loop-test.self c.loop-test.test c.args.set c.loop-test.moved c.loop-test.invariant.kept (omega (arith, ap (λ (d : StepDiagramsParts). d.tests) c.self.view_is)) c.loop-test.invariant.function
