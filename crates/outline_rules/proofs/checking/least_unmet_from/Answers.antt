use Rattle.std.proofs.Common.{map}
use Rattle.outline_rules.specs.declared.moments.Moment.TheVariants.{Before}
use Rattle.outline_rules.proofs.StepSets.{KeepsSteps-trans}
use Rattle.kat_model.specs.Trees.{test_tree}
use Rattle.outline_rules.specs.NoteLists.{note_holds}
use Rattle.outline_rules.specs.Follows.{starts, ends}
use Rattle.outline_rules.specs.Working.Checks.{condition_of}
use Rattle.outline_rules.proofs.NodeSets.{moment_sets_kept}
use Rattle.outline_rules.proofs.LeastTargets.{least_of_all}
use Rattle.outline_rules.proofs.checking.least_unmet_from.Goals as goal

pub least_unmet_check-requires-clause-before : goal.least_unmet_check-requires-clause-before
least_unmet_check-requires-clause-before c = moment_sets_kept _ _ Before _ _ _ c.in_ok-starts.ensures.kept c.requires.before

pub is_end_met-requires-clause-before : goal.is_end_met-requires-clause-before
is_end_met-requires-clause-before c = moment_sets_kept _ _ Before _ _ _ (KeepsSteps-trans _ _ _ c.in_ok-starts.ensures.kept c.in_ok-within.ensures.kept) c.requires.before

pub returns : goal.returns
returns c =
    least_of_all c.args.problem.now (note_holds c.args.notes.now) (starts (test_tree c.args.task.now.pre)) (ends c.args.last (test_tree c.args.task.now.post)) (map condition_of c.args.checks.now)
    c.in_ok-starts.starts c.in_ok-ends.ends c.in_ok-within.within c.target_unless-2.result c.target_unless.result c.lesser-later.result c.lesser.result c.in_ok-end.end
    c.in_ok-starts.ensures.met c.in_ok-ends.ensures.met c.in_ok-within.ensures.least c.in_ok-end.ensures c.target_unless.ensures c.lesser-later.ensures c.target_unless-2.ensures c.lesser.ensures
