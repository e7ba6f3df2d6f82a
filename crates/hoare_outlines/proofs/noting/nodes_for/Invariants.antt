use Rattle.std.proofs.Common.{take}
use Rattle.outline_rules.specs.StepFunctions.{KeepsSteps}
use Rattle.hoare_outlines.specs.Working.Noted.{IsNodeWriter, AreNodesFor}
use Rattle.hoare_outlines.proofs.noting.nodes_for.Given as goal

-- the nodes of the sets so far
abbrev pub invariant-loop-set : goal.invariant-loop-set
invariant-loop-set l = record {
  nodes : AreNodesFor l.diagrams l.writer.nodes.keys (take l.set-index l.sets) l.notes.items;
  writer : IsNodeWriter l.diagrams l.writer;
  kept : KeepsSteps l.initial.diagrams l.diagrams;
}
