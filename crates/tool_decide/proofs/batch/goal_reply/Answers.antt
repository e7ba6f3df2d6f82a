use Rattle.std.proofs.lemmas.Result.{IfOk-weaker}
use Rattle.abstraction.specs.Abstracts.{with_goal}
use Rattle.while_lang.specs.Trees.{goal_tree}
use Rattle.tool_decide.specs.Working.BatchReplies.{question_answered}
use Rattle.tool_decide.proofs.batch.goal_reply.Goals as goal

pub returns : goal.returns
returns c =
    let q = c.in_ok-problem.problem in
    IfOk-weaker c.decided_reply.result _ _ (λ r d. question_answered (with_goal c.args.file.now (goal_tree c.args.goal.now)) q c.in_ok-problem.ensures r.status r.output.items d) c.decided_reply.ensures
