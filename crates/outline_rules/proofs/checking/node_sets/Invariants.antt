use Rattle.std.proofs.Common.{take}
use Rattle.outline_rules.specs.StepFunctions.{KeepsSteps, AreStepDiagrams}
use Rattle.outline_rules.specs.Working.Sets.{AreNodeSets}
use Rattle.outline_rules.proofs.checking.node_sets.Given as goal

-- the sets of the nodes so far
abbrev pub invariant-loop-node : goal.invariant-loop-node
invariant-loop-node l = record {
  sets : AreNodeSets l.diagrams l.moment (take l.node-index l.node-items) l.sets.items;
  kept : KeepsSteps l.initial.diagrams l.diagrams;
  sound : AreStepDiagrams l.diagrams;
}
