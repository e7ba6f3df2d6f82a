use Rattle.outline_rules.specs.StepFunctions.{step_value, IsStepDiagram, KeepsSteps, AreStepDiagrams}
use Rattle.outline_rules.specs.Working.Quantified.{some_first}
use Rattle.outline_rules.proofs.steps.StepDiagrams.from_some.Given as goal

-- the relation holds for some values of the tests so far
abbrev pub invariant-loop-test : goal.invariant-loop-test
invariant-loop-test l = record {
  function : IsStepDiagram l.self l.set (λ before after. some_first l.test (λ from. step_value l.fn.self l.fn.relation from after) before);
  kept : KeepsSteps l.fn.self l.self;
  sound : AreStepDiagrams l.self;
}
