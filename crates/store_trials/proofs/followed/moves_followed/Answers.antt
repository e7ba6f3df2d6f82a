use Rattle.std.proofs.Common.{rules}
use Rattle.store_trials.proofs.FollowedMoves.{not_taken, not_there, there}
use Rattle.store_trials.proofs.followed.moves_followed.Goals as goal

pub returns-then-not-take : goal.returns-then-not-take
returns-then-not-take c =
    not_taken c.args.shown.now c.args.moves.now c.loop-step.step-index c.step-item.result c.loop-step.store c.take.new.store c.take.result _
    c.loop-step-test.true c.step-item.is c.take.ensures c.loop-step.invariant c.if-not-take.true

pub returns-then-not-is_at : goal.returns-then-not-is_at
returns-then-not-is_at c =
    not_there c.args.shown.now c.args.moves.now c.loop-step.step-index c.step-item.result c.loop-step.store c.take.new.store c.take.result _
    c.loop-step-test.true c.step-item.is c.take.ensures c.loop-step.invariant c.if-not-take.false c.is_at.result (search rules) c.if-not-is_at.true

pub loop-step-preserved : goal.loop-step-preserved
loop-step-preserved c =
    there c.args.shown.now c.args.moves.now c.loop-step.step-index c.step-item.result c.loop-step.store c.take.new.store c.take.result _
    c.loop-step-test.true c.step-item.is c.take.ensures c.loop-step.invariant c.if-not-take.false c.is_at.result (search rules) c.if-not-is_at.false
