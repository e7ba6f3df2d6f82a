use Rattle.std.proofs.Common.{◌≡◌, sym, ◌∙◌}
use Rattle.outline_rules.specs.StepFunctions.{KeepsSteps}
use Rattle.outline_rules.proofs.StepSets.{tail_same, IsStepId-kept, KeepsSteps-trans}
use Rattle.outline_rules.proofs.Compositions.{moved_function}
use Rattle.outline_rules.proofs.steps.StepDiagrams.test_moved_before.Goals as goal

pub fix-requires-2-clause-id : goal.fix-requires-2-clause-id
fix-requires-2-clause-id c = IsStepId-kept _ _ c.in_ok-low.ensures.kept _ c.requires.id

pub choice-requires-clause-low : goal.choice-requires-clause-low
choice-requires-clause-low c = IsStepId-kept _ _ c.in_ok-high.ensures.kept _ c.in_ok-low.ensures.function.in_range

pub returns-in_err-high-clause-kept : goal.returns-in_err-high-clause-kept
returns-in_err-high-clause-kept c = KeepsSteps-trans _ _ _ c.in_ok-low.ensures.kept c.in_err-high.ensures.kept

pub returns-clause-kept : goal.returns-clause-kept
returns-clause-kept c = KeepsSteps-trans _ _ _ c.in_ok-low.ensures.kept (KeepsSteps-trans _ _ _ c.in_ok-high.ensures.kept c.choice.ensures.kept)

pub returns-clause-function : goal.returns-clause-function
returns-clause-function c =
    let all : KeepsSteps c.args.self.now c.choice.new.self = KeepsSteps-trans _ _ _ c.fix.ensures.kept (KeepsSteps-trans _ _ _ c.fix-2.ensures.kept c.choice.ensures.kept) in
    tail_same c.choice.result c.choice.new.self _ _ c.choice.ensures.function
    (λ x y lx ly.
    moved_function c.args.self.now c.fix.new.self c.fix-2.new.self c.args.a c.args.test _ _ c.fix.ensures.kept c.fix-2.ensures.kept c.requires.id
    c.in_ok-low.ensures.function c.in_ok-high.ensures.function x y (lx ∙ all.tests) (ly ∙ all.tests))
