use Rattle.std.proofs.Common.{◌≡◌, sym, ◌∙◌}
use Rattle.outline_rules.specs.StepFunctions.{KeepsSteps}
use Rattle.outline_rules.proofs.StepSets.{tail_same, KeepsSteps-trans, IsStepId-kept}
use Rattle.outline_rules.proofs.Compositions.{choice_function}
use Rattle.outline_rules.proofs.steps.StepDiagrams.choice.Goals as goal

pub and-requires-clause-right : goal.and-requires-clause-right
and-requires-clause-right c = IsStepId-kept _ _ (KeepsSteps-trans _ _ _ c.of_prim.ensures.kept c.not.ensures.kept) _ c.requires.low

pub and-requires-2-clause-left : goal.and-requires-2-clause-left
and-requires-2-clause-left c = IsStepId-kept _ _ (KeepsSteps-trans _ _ _ c.not.ensures.kept c.and.ensures.kept) _ c.in_ok-holds.ensures.function.in_range

pub and-requires-2-clause-right : goal.and-requires-2-clause-right
and-requires-2-clause-right c =
    IsStepId-kept _ _ (KeepsSteps-trans _ _ _ c.of_prim.ensures.kept (KeepsSteps-trans _ _ _ c.not.ensures.kept c.and.ensures.kept)) _ c.requires.high

pub or-requires-clause-left : goal.or-requires-clause-left
or-requires-clause-left c = IsStepId-kept _ _ c.and-2.ensures.kept _ c.in_ok-where_false.ensures.function.in_range

pub returns-in_err-fails-clause-kept : goal.returns-in_err-fails-clause-kept
returns-in_err-fails-clause-kept c = KeepsSteps-trans _ _ _ c.of_prim.ensures.kept c.not.ensures.kept

pub returns-in_err-where_false-clause-kept : goal.returns-in_err-where_false-clause-kept
returns-in_err-where_false-clause-kept c = KeepsSteps-trans _ _ _ c.of_prim.ensures.kept (KeepsSteps-trans _ _ _ c.not.ensures.kept c.and.ensures.kept)

pub returns-in_err-where_true-clause-kept : goal.returns-in_err-where_true-clause-kept
returns-in_err-where_true-clause-kept c =
    KeepsSteps-trans _ _ _ c.of_prim.ensures.kept (KeepsSteps-trans _ _ _ c.not.ensures.kept (KeepsSteps-trans _ _ _ c.and.ensures.kept c.and-2.ensures.kept))

pub returns-clause-kept : goal.returns-clause-kept
returns-clause-kept c =
    KeepsSteps-trans _ _ _ c.of_prim.ensures.kept (KeepsSteps-trans _ _ _ c.not.ensures.kept (KeepsSteps-trans _ _ _ c.and.ensures.kept (KeepsSteps-trans _ _ _ c.and-2.ensures.kept c.or.ensures.kept)))

pub returns-clause-function : goal.returns-clause-function
returns-clause-function c =
    let all : KeepsSteps c.args.self.now c.or.new.self = KeepsSteps-trans _ _ _ c.of_prim.ensures.kept (KeepsSteps-trans _ _ _ c.not.ensures.kept (KeepsSteps-trans _ _ _ c.and.ensures.kept (KeepsSteps-trans _ _ _ c.and-2.ensures.kept c.or.ensures.kept))) in
    tail_same c.or.result c.or.new.self _ _ c.or.ensures.function
    (λ x y lx ly.
    choice_function c.args.self.now c.of_prim.new.self c.not.new.self c.and.new.self c.and-2.new.self c.args.moment c.args.test c.args.low c.args.high _ _ _ _
    c.of_prim.ensures.kept c.not.ensures.kept c.and.ensures.kept c.and-2.ensures.kept c.requires.low c.requires.high
    c.in_ok-holds.ensures.function c.in_ok-fails.ensures.function c.in_ok-where_false.ensures.function c.in_ok-where_true.ensures.function x y (lx ∙ all.tests) (ly ∙ all.tests))
