use Rattle.std.proofs.Common.{◌≡◌, ◌+◌, suc, arith}
use Rattle.outline_rules.proofs.StepSets.{KeepsSteps-trans}
use Rattle.outline_rules.proofs.Images.{some_more}
use Rattle.outline_rules.proofs.steps.StepDiagrams.from_some.Goals as goal

pub loop-test-preserved : goal.loop-test-preserved
loop-test-preserved c = record {
  function = some_more c.args.self.now c.loop-test.self c.for_some_value.new.self c.loop-test.test (c.loop-test.test + 1) c.args.relation c.loop-test.set c.in_ok-set.set c.loop-test.invariant.kept c.in_ok-set.ensures.kept (omega arith) c.loop-test.invariant.function c.in_ok-set.ensures.function;
  kept = KeepsSteps-trans _ _ _ c.loop-test.invariant.kept c.in_ok-set.ensures.kept;
  sound = c.in_ok-set.ensures.sound;
}
