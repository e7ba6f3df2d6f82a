use Rattle.std.proofs.Common.{◌∙◌}
use Rattle.std.proofs.lemmas.Result.{IfOk-weaker}
use Rattle.outline_rules.proofs.StepSets.{KeepsSteps-trans}
use Rattle.outline_rules.proofs.HypothesisRanges.{problem_hyps, ruled_out_by}
use Rattle.hoare_outlines.proofs.ActionSteps.{image_set, steps_value, ends_value, action_found}
use Rattle.hoare_outlines.proofs.finding.after_action.Goals as goal

pub ruled_out_steps-requires : goal.ruled_out_steps-requires
ruled_out_steps-requires c = record { in_range = problem_hyps c.args.problem.now c.hyps.result.now c.args.diagrams.now.tests c.hyps.ensures.within c.hyps.ensures.value c.requires.tests }

pub returns-clause-found : goal.returns-clause-found
returns-clause-found c =
    let q = c.args.problem.now in
    let a = c.args.action in
    let d0 = c.args.diagrams.now in
    let d1 = c.ruled_out_steps.new.diagrams in
    let d2 = c.not.new.self in
    let d3 = c.and.new.self in
    let d4 = c.image.new.self in
    let steps = c.in_ok-steps.steps in
    let ends = c.in_ok-ends.ends in
    let tests = c.in_ok-steps.ensures.kept.tests ∙ c.in_ok-free.ensures.kept.tests ∙ c.in_ok-ruled_out.ensures.kept.tests ∙ c.requires.tests in
    let kept = KeepsSteps-trans d0 d1 d4 c.in_ok-ruled_out.ensures.kept (KeepsSteps-trans d1 d2 d4 c.in_ok-free.ensures.kept (KeepsSteps-trans d2 d3 d4 c.in_ok-steps.ensures.kept c.in_ok-ends.ensures.kept)) in
    IfOk-weaker c.and-2.result _ _
    (λ last is_last X is allowed.
    let is_steps = steps_value q a X d0 d1 d2 d3 c.args.set c.in_ok-ruled_out.ruled_out c.in_ok-free.free steps c.in_ok-ruled_out.ensures.kept c.in_ok-free.ensures.kept c.in_ok-steps.ensures.kept
    is (ruled_out_by d1 c.in_ok-ruled_out.ruled_out a _ q.hyps c.hyps.ensures.value c.in_ok-ruled_out.ensures.function) c.in_ok-free.ensures.function c.in_ok-steps.ensures.function in
    let is_ends = image_set d3 d4 steps ends c.in_ok-ends.ensures.kept.tests c.in_ok-ends.ensures.image in
    action_found q a X d3 d4 c.and-2.new.self steps ends last c.requires.simple tests c.requires.action allowed is_steps c.in_ok-ends.ensures.image
    (ends_value q d0 d4 c.and-2.new.self c.args.allowed ends last kept c.and-2.ensures.kept c.requires.allowed is_ends is_last))
    c.and-2.ensures.function

pub returns-clause-kept : goal.returns-clause-kept
returns-clause-kept c =
    let last = c.and-2.new.self in
    let ends = KeepsSteps-trans c.and.new.self c.image.new.self last c.in_ok-ends.ensures.kept c.and-2.ensures.kept in
    let steps = KeepsSteps-trans c.not.new.self c.and.new.self last c.in_ok-steps.ensures.kept ends in
    let free = KeepsSteps-trans c.ruled_out_steps.new.diagrams c.not.new.self last c.in_ok-free.ensures.kept steps in
    KeepsSteps-trans c.args.diagrams.now c.ruled_out_steps.new.diagrams last c.in_ok-ruled_out.ensures.kept free
