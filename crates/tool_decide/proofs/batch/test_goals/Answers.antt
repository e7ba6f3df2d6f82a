use Rattle.std.proofs.Common.{map, inl, inr, refl, sym, subst, arith, rules}
use Rattle.kat_model.specs.Members.{Has}
use Rattle.abstraction.specs.Abstracts.{HasNumbersInRange, with_goal}
use Rattle.while_lang.specs.Trees.{goal_tree}
use Rattle.tool_inputs.specs.TextProblem.{HasNoAbstraction}
use Rattle.tool_inputs.specs.Steps.{IsRefusal}
use Rattle.tool_decide.specs.Batch.{with_each, PosesSome, IsFirstRefused}
use Rattle.tool_inputs.specs.ReplySpecs.{Yields}
use Rattle.tool_inputs.proofs.ReplySpecs.{Yields-refused}
use Rattle.tool_decide.specs.Working.GoalLists.{own_goal, goal_at, other_has, all_first, some_next, refused_at}
use Rattle.tool_decide.proofs.batch.test_goals.Goals as goal

pub test_goal-requires : goal.test_goal-requires
test_goal-requires c = subst HasNumbersInRange (sym (own_goal c.args.file.now _ c.file.view_is)) (c.requires c.args.file.now (inl refl))

pub test_goal-requires-in-loop-goal : goal.test_goal-requires-in-loop-goal
test_goal-requires-in-loop-goal c =
    let f = c.args.file.now in
    let e = goal_at c.args.more.now c.loop-goal.goal-index c.goal-item.result c.loop-goal-test.true c.goal-item.is in
    c.requires _ (inr (other_has f (map goal_tree c.args.more.now) c.loop-goal.goal-index (goal_tree c.goal-item.result) e))

pub loop-goal-init : goal.loop-goal-init
loop-goal-init c g (inl is) = subst PosesSome is (subst PosesSome (own_goal c.args.file.now _ c.file.view_is) c.in_ok-test_goal.ensures)
loop-goal-init c g (inr has) = elim has [ ]

pub returns-in_err-test_goal-2 : goal.returns-in_err-test_goal-2
returns-in_err-test_goal-2 c =
    let f = c.args.file.now in
    let gs = map goal_tree c.args.more.now in
    let x = with_goal f (goal_tree c.goal-item.result) in
    let e = goal_at c.args.more.now c.loop-goal.goal-index c.goal-item.result c.loop-goal-test.true c.goal-item.is in
    let r : Yields {T = Unit {0}} (λ u. ⊥) (IsRefusal (HasNoAbstraction x)) c.from_residual-in_err-test_goal-2.result = search rules in
    Yields-refused _ (IsRefusal (HasNoAbstraction x)) (IsRefusal (IsFirstRefused (with_each f gs)))
    (λ status output h. (h.0, refused_at f gs c.loop-goal.goal-index (goal_tree c.goal-item.result) output e c.loop-goal.invariant h.1))
    c.from_residual-in_err-test_goal-2.result r

pub loop-goal-preserved : goal.loop-goal-preserved
loop-goal-preserved c =
    let f = c.args.file.now in
    let e = goal_at c.args.more.now c.loop-goal.goal-index c.goal-item.result c.loop-goal-test.true c.goal-item.is in
    some_next f (map goal_tree c.args.more.now) c.loop-goal.goal-index (goal_tree c.goal-item.result) e c.loop-goal.invariant c.in_ok-test_goal-2.ensures

pub returns : goal.returns
returns c g has = c.loop-goal.invariant g (subst (λ xs. Has xs g) (sym (all_first c.args.file.now c.args.more.now c.loop-goal.goal-index (omega arith))) has)
