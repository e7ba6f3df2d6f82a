use Rattle.outline_rules.proofs.StepSets.{IsStepDiagram-kept}
use Rattle.outline_rules.proofs.HypothesisRanges.{problem_hyps, allowed_by}
use Rattle.outline_rules.proofs.checking.moment_sets.Goals as goal

pub allowed_atoms-requires : goal.allowed_atoms-requires
allowed_atoms-requires c = record { in_range = problem_hyps c.args.problem.now c.hyps.result.now c.args.diagrams.now.tests c.hyps.ensures.within c.hyps.ensures.value c.requires.same }

pub returns-clause-sets : goal.returns-clause-sets
returns-clause-sets c = record {
  allowed = IsStepDiagram-kept c.allowed_atoms.new.diagrams c.node_sets.new.diagrams c.in_ok-nodes.ensures.kept c.in_ok-allowed.allowed _
      (allowed_by c.allowed_atoms.new.diagrams c.in_ok-allowed.allowed c.args.moment _ c.args.problem.now.hyps c.hyps.ensures.value c.in_ok-allowed.ensures.function);
  nodes = c.in_ok-nodes.ensures.sets;
}
