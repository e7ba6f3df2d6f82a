use Rattle.std.proofs.Common.{◌+◌, get_or, drop, subst, None, Some}
use Rattle.lrat_checker.specs.Working.Steps.{IsStep}
use Rattle.lrat_checker.proofs.HintSteps.{conflict_first, failure_first, verdict_after, verdict_drop}
use Rattle.lrat_checker.proofs.propagation.hints_reason.Goals as goal

pub returns-in-Conflict : goal.returns-in-Conflict
returns-in-Conflict c = λ k knows.
    let hints = c.args.hints.now in
    let i = c.loop-hint.hint-index in
    let step = subst (λ s. IsStep k.known c.loop-hint.falses (get_or hints i 0) c.step_by.new.falses s) c.in-Conflict.is (c.in_ok-step_by.ensures k knows) in
    c.loop-hint.invariant k knows None (verdict_drop k.known c.loop-hint.falses hints i c.args.resolvents None c.loop-hint-test.true (conflict_first k.known c.loop-hint.falses (get_or hints i 0) (drop (i + 1) hints) c.args.resolvents step))

pub returns-in-Fails : goal.returns-in-Fails
returns-in-Fails c = λ k knows.
    let hints = c.args.hints.now in
    let i = c.loop-hint.hint-index in
    let step = subst (λ s. IsStep k.known c.loop-hint.falses (get_or hints i 0) c.step_by.new.falses s) c.in-Fails.is (c.in_ok-step_by.ensures k knows) in
    c.loop-hint.invariant k knows (Some c.in-Fails.reason) (verdict_drop k.known c.loop-hint.falses hints i c.args.resolvents (Some c.in-Fails.reason) c.loop-hint-test.true (failure_first k.known c.loop-hint.falses (get_or hints i 0) (drop (i + 1) hints) c.args.resolvents c.in-Fails.reason step))

pub loop-hint-preserved : goal.loop-hint-preserved
loop-hint-preserved c = λ k knows v rest.
    let hints = c.args.hints.now in
    let i = c.loop-hint.hint-index in
    let step = subst (λ s. IsStep k.known c.loop-hint.falses (get_or hints i 0) c.step_by.new.falses s) c.in-Propagated.is (c.in_ok-step_by.ensures k knows) in
    c.loop-hint.invariant k knows v (verdict_drop k.known c.loop-hint.falses hints i c.args.resolvents v c.loop-hint-test.true (verdict_after k.known c.loop-hint.falses (get_or hints i 0) (drop (i + 1) hints) c.args.resolvents c.step_by.new.falses step v rest))
