use Rattle.std.proofs.Common.{sym, ap, ◌∙◌}
use Rattle.kat_model.specs.Trees.{kat_tree, is_test}
use Rattle.outline_rules.proofs.StepSets.{IsStepId-kept, KeepsSteps-trans}
use Rattle.outline_rules.proofs.HypothesisSets.{tail_test_first, tail_test_second}
use Rattle.outline_rules.proofs.hypotheses.+steps_ruled_out_by.Goals as goal

pub returns-in_err-rest-in-Seq-clause-kept : goal.returns-in_err-rest-in-Seq-clause-kept
returns-in_err-rest-in-Seq-clause-kept t c = KeepsSteps-trans _ _ _ c.in_ok-before-in-Seq.ensures.kept c.in_err-rest-in-Seq.ensures.kept

pub and-requires-clause-left : goal.and-requires-clause-left
and-requires-clause-left t c = IsStepId-kept _ _ c.in_ok-rest-in-Seq.ensures.kept _ c.in_ok-before-in-Seq.ensures.function.in_range

pub returns-then-is_test-clause-kept : goal.returns-then-is_test-clause-kept
returns-then-is_test-clause-kept t c =
    KeepsSteps-trans _ _ _ c.in_ok-before-in-Seq.ensures.kept (KeepsSteps-trans _ _ _ c.in_ok-rest-in-Seq.ensures.kept c.and.ensures.kept)

pub returns-in_err-after-in-Seq-clause-kept : goal.returns-in_err-after-in-Seq-clause-kept
returns-in_err-after-in-Seq-clause-kept t c = KeepsSteps-trans _ _ _ c.in_ok-first-in-Seq.ensures.kept c.in_err-after-in-Seq.ensures.kept

pub and-requires-in-Seq-clause-left : goal.and-requires-in-Seq-clause-left
and-requires-in-Seq-clause-left t c = IsStepId-kept _ _ c.in_ok-after-in-Seq.ensures.kept _ c.in_ok-first-in-Seq.ensures.function.in_range

pub returns-in_ok-after-in-Seq-clause-kept : goal.returns-in_ok-after-in-Seq-clause-kept
returns-in_ok-after-in-Seq-clause-kept t c =
    KeepsSteps-trans _ _ _ c.in_ok-first-in-Seq.ensures.kept (KeepsSteps-trans _ _ _ c.in_ok-after-in-Seq.ensures.kept c.and-in-Seq.ensures.kept)

pub returns-then-is_test-clause-function : goal.returns-then-is_test-clause-function
returns-then-is_test-clause-function t c =
    rw (c.in-Seq.is, ← c.deref-then-is_test.ensures, ← c.deref-then-is_test-2.ensures) (tail_test_first _ _ _ _ _ _ (kat_tree c.deref-then-is_test.result.now) (kat_tree c.deref-then-is_test-2.result.now) c.args.action (ap (λ e. is_test (kat_tree e)) (c.deref-then-is_test.ensures ∙ sym c.deref.ensures) ∙ sym c.is_test.ensures ∙ c.if-is_test.true) c.in_ok-rest-in-Seq.ensures.kept c.and.ensures.kept c.in_ok-before-in-Seq.ensures.function c.in_ok-rest-in-Seq.ensures.function c.and.ensures.function)

pub returns-in_ok-after-in-Seq-clause-function : goal.returns-in_ok-after-in-Seq-clause-function
returns-in_ok-after-in-Seq-clause-function t c =
    rw (c.in-Seq.is, ← c.deref-in-Seq.ensures, ← c.deref-in-Seq-2.ensures) (tail_test_second _ _ _ _ _ _ (kat_tree c.deref-in-Seq.result.now) (kat_tree c.deref-in-Seq-2.result.now) c.args.action (ap (λ e. is_test (kat_tree e)) (c.deref-in-Seq.ensures ∙ sym c.deref.ensures) ∙ sym c.is_test.ensures ∙ c.if-is_test.false) c.in_ok-after-in-Seq.ensures.kept c.and-in-Seq.ensures.kept c.in_ok-first-in-Seq.ensures.function c.in_ok-after-in-Seq.ensures.function c.and-in-Seq.ensures.function)
