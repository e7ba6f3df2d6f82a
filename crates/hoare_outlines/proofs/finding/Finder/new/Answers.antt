use Rattle.std.proofs.Common.{◌∙◌}
use Rattle.outline_rules.proofs.HypothesisRanges.{problem_hyps}
use Rattle.hoare_outlines.proofs.finding.Finder.new.Goals as goal

pub allowed_atoms-requires : goal.allowed_atoms-requires
allowed_atoms-requires c = record { in_range = problem_hyps c.args.problem.now c.hyps.result.now c.in_ok-diagrams.diagrams.tests c.hyps.ensures.within c.hyps.ensures.value (c.in_ok-diagrams.ensures.tests ∙ c.tests.ensures.value) }
