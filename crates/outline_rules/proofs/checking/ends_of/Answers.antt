use Rattle.std.proofs.Common.{◌∙◌}
use Rattle.std.proofs.lemmas.Result.{IfOk-weaker}
use Rattle.outline_rules.proofs.StepSets.{IsStepId-kept, KeepsSteps-trans}
use Rattle.outline_rules.proofs.HypothesisRanges.{problem_hyps, ruled_out_by}
use Rattle.outline_rules.proofs.Entailments.{ends_are}
use Rattle.outline_rules.proofs.checking.ends_of.Goals as goal

pub ruled_out_steps-requires : goal.ruled_out_steps-requires
ruled_out_steps-requires c = record { in_range = problem_hyps c.args.problem.now c.hyps.result.now c.args.diagrams.now.tests c.hyps.ensures.within c.hyps.ensures.value c.requires.tests }

pub and-requires-clause-left : goal.and-requires-clause-left
and-requires-clause-left c = IsStepId-kept _ _ (KeepsSteps-trans _ _ _ c.in_ok-ruled_out.ensures.kept c.in_ok-free.ensures.kept) _ c.requires.allowed

pub and-requires-clause-right : goal.and-requires-clause-right
and-requires-clause-right c = IsStepId-kept _ _ (KeepsSteps-trans _ _ _ c.in_ok-ruled_out.ensures.kept c.in_ok-free.ensures.kept) _ c.requires.from

pub and-requires-2-clause-right : goal.and-requires-2-clause-right
and-requires-2-clause-right c = IsStepId-kept _ _ c.in_ok-there.ensures.kept _ c.in_ok-free.ensures.function.in_range

pub returns-in_err-free-clause-kept : goal.returns-in_err-free-clause-kept
returns-in_err-free-clause-kept c = KeepsSteps-trans _ _ _ c.in_ok-ruled_out.ensures.kept c.in_err-free.ensures.kept

pub returns-in_err-there-clause-kept : goal.returns-in_err-there-clause-kept
returns-in_err-there-clause-kept c = KeepsSteps-trans _ _ _ c.in_ok-ruled_out.ensures.kept (KeepsSteps-trans _ _ _ c.in_ok-free.ensures.kept c.in_err-there.ensures.kept)

pub returns-in_err-steps-clause-kept : goal.returns-in_err-steps-clause-kept
returns-in_err-steps-clause-kept c =
    KeepsSteps-trans _ _ _ c.in_ok-ruled_out.ensures.kept (KeepsSteps-trans _ _ _ c.in_ok-free.ensures.kept (KeepsSteps-trans _ _ _ c.in_ok-there.ensures.kept c.in_err-steps.ensures.kept))

pub returns-clause-ends : goal.returns-clause-ends
returns-clause-ends c =
    let q = c.args.problem.now in
    let a = c.args.action in
    let d1 = c.ruled_out_steps.new.diagrams in
    let k1 = c.in_ok-ruled_out.ensures.kept in
    let k2 = c.in_ok-free.ensures.kept in
    let k3 = c.in_ok-there.ensures.kept in
    let k4 = c.in_ok-steps.ensures.kept in
    let ruled = ruled_out_by d1 c.in_ok-ruled_out.ruled_out a _ q.hyps c.hyps.ensures.value c.in_ok-ruled_out.ensures.function in
    IfOk-weaker c.image.result _ _
    (λ ends image f g is_allowed is_from.
    ends_are c.args.diagrams.now d1 c.not.new.self c.and.new.self c.and-2.new.self c.image.new.self q.hyps a q.tests c.args.allowed c.args.from c.in_ok-ruled_out.ruled_out c.in_ok-free.free c.in_ok-there.there c.in_ok-steps.steps ends f g k1 k2 k3 k4
    (k4.tests ∙ k3.tests ∙ k2.tests ∙ k1.tests ∙ c.requires.tests) is_allowed is_from ruled c.in_ok-free.ensures.function c.in_ok-there.ensures.function c.in_ok-steps.ensures.function image)
    c.image.ensures.image

pub returns-clause-kept : goal.returns-clause-kept
returns-clause-kept c =
    let last = c.image.new.self in
    let steps = KeepsSteps-trans c.and.new.self c.and-2.new.self last c.in_ok-steps.ensures.kept c.image.ensures.kept in
    let there = KeepsSteps-trans c.not.new.self c.and.new.self last c.in_ok-there.ensures.kept steps in
    let free = KeepsSteps-trans c.ruled_out_steps.new.diagrams c.not.new.self last c.in_ok-free.ensures.kept there in
    KeepsSteps-trans c.args.diagrams.now c.ruled_out_steps.new.diagrams last c.in_ok-ruled_out.ensures.kept free
