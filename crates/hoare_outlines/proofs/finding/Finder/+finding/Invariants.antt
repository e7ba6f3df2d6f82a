use Rattle.std.proofs.Common.{◌≡◌, ◌++◌, ℕ, List, drop}
use Rattle.kat_model.specs.Trees.{test_tree}
use Rattle.while_lang.specs.Flows.{loop}
use Rattle.while_lang.specs.FlowViews.{flows_tree}
use Rattle.outline_rules.specs.StepFunctions.{KeepsSteps}
use Rattle.hoare_outlines.specs.Working.AtomSets.{AtomSet, IsSetId, IsAllowedSet}
use Rattle.hoare_outlines.specs.Working.Reached.{IsFlowInRange}
use Rattle.hoare_outlines.specs.Working.Found.{IsFinder, FlowSoFar}
use Rattle.hoare_outlines.specs.Working.FoundLoops.{turn_term, stmt_turns, GrowsFrom, KeepsLoops, LoopsSoFar}
use Rattle.hoare_outlines.proofs.LoopSteps.{outside_id}
use Rattle.hoare_outlines.proofs.finding.Finder.+finding.Given as goal

-- the statements so far are done
abbrev pub invariant-after_flow-loop-stmt : goal.invariant-after_flow-loop-stmt
invariant-after_flow-loop-stmt l = record {
  finder : IsFinder l.problem l.self;
  kept : KeepsSteps l.initial.self.diagrams l.self.diagrams;
  in_range : IsFlowInRange l.problem (flows_tree (drop l.stmt-index l.stmt-items));
  found : (X : AtomSet) → IsSetId l.initial.self.diagrams l.fn.set X → IsAllowedSet l.problem X → FlowSoFar l.problem l.stmt-items l.stmt-index l.initial.self.notes.items l.self X l.reached;
  loops : LoopsSoFar l.problem l.stmt-items l.stmt-index l.initial.self l.self;
}

-- the invariant contains the entry of the loop, and is reached from it along turns
abbrev pub invariant-after_loop-grows : goal.invariant-after_loop-grows
invariant-after_loop-grows l = record {
  finder : IsFinder l.problem l.self;
  kept : KeepsSteps l.fn.self.diagrams l.self.diagrams;
  notes : (more : List ℕ) × (l.self.notes.items ≡ l.fn.self.notes.items ++ more);
  grown : GrowsFrom l.problem (turn_term (test_tree l.guard) l.body) l.fn.self.diagrams l.fn.set l.self.diagrams l.invariant';
  loops : KeepsLoops l.problem (stmt_turns (loop (test_tree l.guard) l.body)) l.fn.self l.self;
}

-- the invariant grows in each round, so fewer atoms are outside
abbrev pub decreases-after_loop-grows : goal.decreases-after_loop-grows
decreases-after_loop-grows l = outside_id l.self.diagrams l.invariant'
