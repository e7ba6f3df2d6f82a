use Rattle.std.proofs.Common.{map, inl, inr, sym, subst, rules}
use Rattle.problem_file.specs.Reads.{FirstFaultOfAll}
use Rattle.while_lang.specs.Trees.{goal_tree}
use Rattle.tool_inputs.specs.TextProblem.{IsFaultOf}
use Rattle.tool_inputs.specs.Steps.{IsRefusal}
use Rattle.tool_inputs.specs.ReplySpecs.{RepliesWith}
use Rattle.tool_inputs.proofs.ReplySpecs.{RepliesWith-weaker}
use Rattle.tool_decide.specs.Batch.{AnswersAll, BatchReply}
use Rattle.tool_decide.specs.Working.Goals.{AreInRange}
use Rattle.tool_decide.specs.Working.BatchReplies.{numbers_of_goals, batch_reply}
use Rattle.tool_decide.proofs.batch.BatchCommandTextCommand.text_reply.Goals as goal

pub goals_reply-requires : goal.goals_reply-requires
goals_reply-requires c =
    let more = map goal_tree c.in_ok-file.more.items in
    subst (λ gs. AreInRange c.in_ok-file.file (map goal_tree gs)) (sym c.deref.ensures.value) (numbers_of_goals c.args.text.now c.in_ok-file.file more c.in_ok-file.ensures)

pub returns-in_err-file : goal.returns-in_err-file
returns-in_err-file c =
    let text = c.args.text.now in
    let r : RepliesWith (IsRefusal (IsFaultOf (FirstFaultOfAll text))) c.from_residual.result = search rules in
    RepliesWith-weaker (IsRefusal (IsFaultOf (FirstFaultOfAll text))) (BatchReply text) (λ status output h. batch_reply text status output (inl h)) c.from_residual.result r

pub returns : goal.returns
returns c =
    let text = c.args.text.now in
    let f = c.in_ok-file.file in
    let more = map goal_tree c.in_ok-file.more.items in
    let replied = subst (λ gs. RepliesWith (AnswersAll f (map goal_tree gs)) c.goals_reply.result) c.deref.ensures.value c.goals_reply.ensures in
    RepliesWith-weaker (AnswersAll f more) (BatchReply text) (λ status output h. batch_reply text status output (inr ((f, more), c.in_ok-file.ensures, h))) c.goals_reply.result replied
