use Rattle.std.proofs.Common.{◌&&◌, ◌||◌}
use Rattle.outline_rules.proofs.StepSets.{IsStepId-kept, KeepsSteps-trans, tail_complement, tail_joined}
use Rattle.outline_rules.proofs.steps.StepDiagrams.+of_test.Goals as goal

pub and-requires-clause-left : goal.and-requires-clause-left
and-requires-clause-left t c = IsStepId-kept _ _ c.in_ok-right-in-And.ensures.kept _ c.in_ok-left-in-And.ensures.function.in_range

pub or-requires-clause-left : goal.or-requires-clause-left
or-requires-clause-left t c = IsStepId-kept _ _ c.in_ok-right-in-Or.ensures.kept _ c.in_ok-left-in-Or.ensures.function.in_range

pub returns-in_err-right-in-And-clause-kept : goal.returns-in_err-right-in-And-clause-kept
returns-in_err-right-in-And-clause-kept t c = KeepsSteps-trans _ _ _ c.in_ok-left-in-And.ensures.kept c.in_err-right-in-And.ensures.kept

pub returns-in_err-right-in-Or-clause-kept : goal.returns-in_err-right-in-Or-clause-kept
returns-in_err-right-in-Or-clause-kept t c = KeepsSteps-trans _ _ _ c.in_ok-left-in-Or.ensures.kept c.in_err-right-in-Or.ensures.kept

pub returns-in_ok-inner-in-Not-clause-function : goal.returns-in_ok-inner-in-Not-clause-function
returns-in_ok-inner-in-Not-clause-function t c =
    rw (c.in-Not.is, ← c.deref.ensures) (tail_complement _ _ _ _ _ c.not.ensures.kept c.in_ok-inner-in-Not.ensures.function c.not.ensures.function)

pub returns-in_ok-inner-in-Not-clause-kept : goal.returns-in_ok-inner-in-Not-clause-kept
returns-in_ok-inner-in-Not-clause-kept t c = KeepsSteps-trans _ _ _ c.in_ok-inner-in-Not.ensures.kept c.not.ensures.kept

pub returns-in_ok-right-in-And-clause-function : goal.returns-in_ok-right-in-And-clause-function
returns-in_ok-right-in-And-clause-function t c =
    rw (c.in-And.is, ← c.deref-in-And.ensures, ← c.deref-in-And-2.ensures) (tail_joined (λ p q. p && q) _ _ _ _ _ _ _ _ c.in_ok-right-in-And.ensures.kept c.and.ensures.kept c.in_ok-left-in-And.ensures.function c.in_ok-right-in-And.ensures.function c.and.ensures.function)

pub returns-in_ok-right-in-And-clause-kept : goal.returns-in_ok-right-in-And-clause-kept
returns-in_ok-right-in-And-clause-kept t c =
    KeepsSteps-trans _ _ _ c.in_ok-left-in-And.ensures.kept (KeepsSteps-trans _ _ _ c.in_ok-right-in-And.ensures.kept c.and.ensures.kept)

pub returns-in_ok-right-in-Or-clause-function : goal.returns-in_ok-right-in-Or-clause-function
returns-in_ok-right-in-Or-clause-function t c =
    rw (c.in-Or.is, ← c.deref-in-Or.ensures, ← c.deref-in-Or-2.ensures) (tail_joined (λ p q. p || q) _ _ _ _ _ _ _ _ c.in_ok-right-in-Or.ensures.kept c.or.ensures.kept c.in_ok-left-in-Or.ensures.function c.in_ok-right-in-Or.ensures.function c.or.ensures.function)

pub returns-in_ok-right-in-Or-clause-kept : goal.returns-in_ok-right-in-Or-clause-kept
returns-in_ok-right-in-Or-clause-kept t c =
    KeepsSteps-trans _ _ _ c.in_ok-left-in-Or.ensures.kept (KeepsSteps-trans _ _ _ c.in_ok-right-in-Or.ensures.kept c.or.ensures.kept)
