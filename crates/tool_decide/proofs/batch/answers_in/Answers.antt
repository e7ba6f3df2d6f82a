use Rattle.std.proofs.Common.{map, inl, inr, refl, sym, subst, ap, ◌∙◌, ◌++◌, arith}
use Rattle.abstraction.specs.Abstracts.{HasNumbersInRange}
use Rattle.while_lang.specs.Trees.{goal_tree}
use Rattle.tool_decide.specs.Batch.{PosesSome, goal_line, IsGoalAnswer, AnswersFrom}
use Rattle.tool_decide.specs.Working.GoalLists.{own_goal, goal_at, other_has, all_first}
use Rattle.tool_decide.specs.Working.BatchReplies.{first_answered, next_answered}
use Rattle.tool_decide.proofs.batch.answers_in.Goals as goal

pub goal_reply-requires-clause-numbers : goal.goal_reply-requires-clause-numbers
goal_reply-requires-clause-numbers c = subst HasNumbersInRange (sym (own_goal c.args.file.now _ c.file.view_is)) (c.requires.numbers c.args.file.now (inl refl))

pub goal_reply-requires-clause-poses : goal.goal_reply-requires-clause-poses
goal_reply-requires-clause-poses c = subst PosesSome (sym (own_goal c.args.file.now _ c.file.view_is)) (c.requires.poses c.args.file.now (inl refl))

pub loop-k-init : goal.loop-k-init
loop-k-init c =
    let f = c.args.file.now in
    let first = c.in_ok-first.first in
    let answer = subst (λ g. IsGoalAnswer g first.status first.output.items) (own_goal f _ c.file.view_is) c.in_ok-first.ensures in
    first_answered f first.status first.output.items answer _ _ c.in_ok-put_answer.ensures.0 (c.in_ok-put_answer.ensures.1 ∙ ap (λ o. o ++ (goal_line 0 ++ first.output.items)) c.new.ensures.items)

pub goal_reply-requires-in-loop-k-clause-numbers : goal.goal_reply-requires-in-loop-k-clause-numbers
goal_reply-requires-in-loop-k-clause-numbers c =
    let e = goal_at c.args.more.now c.loop-k.k c.index-more-k.result c.loop-k-test.true c.index-more-k.is in
    c.requires.numbers _ (inr (other_has c.args.file.now (map goal_tree c.args.more.now) c.loop-k.k (goal_tree c.index-more-k.result) e))

pub goal_reply-requires-in-loop-k-clause-poses : goal.goal_reply-requires-in-loop-k-clause-poses
goal_reply-requires-in-loop-k-clause-poses c =
    let e = goal_at c.args.more.now c.loop-k.k c.index-more-k.result c.loop-k-test.true c.index-more-k.is in
    c.requires.poses _ (inr (other_has c.args.file.now (map goal_tree c.args.more.now) c.loop-k.k (goal_tree c.index-more-k.result) e))

pub loop-k-preserved : goal.loop-k-preserved
loop-k-preserved c =
    let e = goal_at c.args.more.now c.loop-k.k c.index-more-k.result c.loop-k-test.true c.index-more-k.is in
    let answer = c.in_ok-answer.answer in
    next_answered c.args.file.now (map goal_tree c.args.more.now) c.loop-k.k (goal_tree c.index-more-k.result) e _ _ c.loop-k.invariant answer.status answer.output.items c.in_ok-answer.ensures _ _ c.in_ok-put_answer-2.ensures.0 c.in_ok-put_answer-2.ensures.1

pub returns : goal.returns
returns c = subst (λ fs. AnswersFrom 0 fs c.loop-k.all.status c.loop-k.all.output.items) (all_first c.args.file.now c.args.more.now c.loop-k.k (omega arith)) c.loop-k.invariant
