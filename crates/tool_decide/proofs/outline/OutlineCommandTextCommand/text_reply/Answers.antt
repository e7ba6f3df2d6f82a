use Rattle.std.proofs.Common.{rules}
use Rattle.outline_rules.specs.Tasks.{task_parts}
use Rattle.tool_decide.specs.Triples.{PosesNoTask}
use Rattle.tool_inputs.specs.Steps.{IsRefusal}
use Rattle.tool_inputs.specs.ReplySpecs.{RepliesWith}
use Rattle.tool_inputs.proofs.ReplySpecs.{RepliesWith-weaker}
use Rattle.tool_decide.specs.Outline.{IsOutlined, OutlineReply}
use Rattle.tool_decide.specs.Working.TextTriples.{no_task, posed_task}
use Rattle.tool_decide.specs.Working.OutlineReplies.{outline_reply}
use Rattle.tool_decide.proofs.outline.OutlineCommandTextCommand.text_reply.Goals as goal

pub outline_reply-requires-clause-simple : goal.outline_reply-requires-clause-simple
outline_reply-requires-clause-simple c = c.in_ok-triple.ensures.task.simple

pub outline_reply-requires-clause-triple : goal.outline_reply-requires-clause-triple
outline_reply-requires-clause-triple c = c.in_ok-triple.ensures.sides

pub returns-in_err-triple : goal.returns-in_err-triple
returns-in_err-triple c =
    let text = c.args.text.now in
    let r : RepliesWith (IsRefusal (PosesNoTask text)) c.from_residual.result = search rules in
    RepliesWith-weaker (IsRefusal (PosesNoTask text)) (OutlineReply text) (λ status output h. outline_reply text status output (no_task text IsOutlined status output h)) c.from_residual.result r

pub returns : goal.returns
returns c =
    let text = c.args.text.now in
    outline_reply text _ _ (posed_task text IsOutlined _ _ c.in_ok-triple.triple.problem (task_parts c.in_ok-triple.triple.task) c.in_ok-triple.ensures c.in_ok-outline_reply.ensures)
