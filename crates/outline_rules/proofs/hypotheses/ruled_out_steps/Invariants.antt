use Rattle.std.proofs.Common.{◌≡◌, map, take}
use Rattle.kat_model.specs.Trees.{kat_tree}
use Rattle.outline_rules.specs.StepFunctions.{IsStepDiagram, KeepsSteps, AreStepDiagrams}
use Rattle.goal_forms.specs.HypothesisForms.{some_rules_out}
use Rattle.outline_rules.proofs.hypotheses.ruled_out_steps.Given as goal

-- the steps that the hypotheses so far rule out
abbrev pub invariant-loop-hyp : goal.invariant-loop-hyp
invariant-loop-hyp l = record {
  function : IsStepDiagram l.diagrams l.steps (some_rules_out (map kat_tree (take l.hyp-index l.hyps)) l.action);
  kept : KeepsSteps l.initial.diagrams l.diagrams;
  sound : AreStepDiagrams l.diagrams;
}
