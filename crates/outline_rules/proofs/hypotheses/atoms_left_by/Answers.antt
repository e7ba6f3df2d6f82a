use Rattle.std.proofs.Common.{sym, ◌∙◌}
use Rattle.kat_model.specs.Trees.{kat_tree}
use Rattle.outline_rules.proofs.StepSets.{IsStepId-kept, KeepsSteps-trans}
use Rattle.outline_rules.proofs.HypothesisSets.{tail_left}
use Rattle.outline_rules.proofs.hypotheses.atoms_left_by.Goals as goal

pub and-requires-clause-left : goal.and-requires-clause-left
and-requires-clause-left c = IsStepId-kept _ _ (KeepsSteps-trans _ _ _ c.in_ok-taken.ensures.kept c.in_ok-left.ensures.kept) _ c.requires.id

pub returns-in_err-left-clause-kept : goal.returns-in_err-left-clause-kept
returns-in_err-left-clause-kept c = KeepsSteps-trans _ _ _ c.in_ok-taken.ensures.kept c.in_err-left.ensures.kept

pub returns-clause-kept : goal.returns-clause-kept
returns-clause-kept c = KeepsSteps-trans _ _ _ c.in_ok-taken.ensures.kept (KeepsSteps-trans _ _ _ c.in_ok-left.ensures.kept c.and.ensures.kept)

pub returns-clause-function : goal.returns-clause-function
returns-clause-function c =
    tail_left _ _ _ _ c.args.set _ _ _ (kat_tree c.args.hyp.now) c.args.moment (sym c.is_test.ensures ∙ c.if-not-is_test.false) c.in_ok-taken.ensures.kept c.in_ok-left.ensures.kept c.and.ensures.kept c.requires.id c.in_ok-taken.ensures.function c.in_ok-left.ensures.function c.and.ensures.function
