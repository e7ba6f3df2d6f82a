use Rattle.std.proofs.Common.{◌≡◌, map, take}
use Rattle.kat_model.specs.Trees.{kat_tree}
use Rattle.outline_rules.specs.Interleaved.{atom_at_moment}
use Rattle.outline_rules.specs.StepFunctions.{IsStepDiagram, KeepsSteps, AreStepDiagrams}
use Rattle.goal_forms.specs.HypothesisForms.{allows}
use Rattle.outline_rules.proofs.hypotheses.allowed_atoms.Given as goal

-- the set of the atoms that the hypotheses so far allow
abbrev pub invariant-loop-hyp : goal.invariant-loop-hyp
invariant-loop-hyp l = record {
  function : IsStepDiagram l.diagrams l.set (λ before after. allows (map kat_tree (take l.hyp-index l.hyps)) (atom_at_moment l.moment before after));
  kept : KeepsSteps l.initial.diagrams l.diagrams;
  sound : AreStepDiagrams l.diagrams;
}
