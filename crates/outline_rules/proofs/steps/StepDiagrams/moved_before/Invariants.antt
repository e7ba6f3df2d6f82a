use Rattle.outline_rules.specs.StepFunctions.{step_value, IsStepDiagram, KeepsSteps, AreStepDiagrams}
use Rattle.outline_rules.specs.Working.Quantified.{with_first}
use Rattle.outline_rules.proofs.steps.StepDiagrams.moved_before.Given as goal

-- after the step, the tests so far have their values from before the step
abbrev pub invariant-loop-test : goal.invariant-loop-test
invariant-loop-test l = record {
  function : IsStepDiagram l.self l.moved (λ before after. step_value l.fn.self l.fn.set before (with_first l.test before after));
  kept : KeepsSteps l.fn.self l.self;
  sound : AreStepDiagrams l.self;
}
