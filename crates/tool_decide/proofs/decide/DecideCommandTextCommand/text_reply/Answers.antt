use Rattle.std.proofs.Common.{rules}
use Rattle.tool_inputs.specs.TextProblem.{HasNoProblem}
use Rattle.tool_inputs.specs.Steps.{IsRefusal}
use Rattle.tool_inputs.specs.ReplySpecs.{RepliesWith}
use Rattle.tool_inputs.proofs.ReplySpecs.{RepliesWith-weaker}
use Rattle.tool_inputs.proofs.TextReplies.{text_refused, text_posed}
use Rattle.tool_decide.specs.Decide.{IsDecided, DecideReply}
use Rattle.tool_decide.specs.Working.DecideReplies.{decide_reply}
use Rattle.tool_decide.proofs.decide.DecideCommandTextCommand.text_reply.Goals as goal

pub returns-in_err-problem : goal.returns-in_err-problem
returns-in_err-problem c =
    let text = c.args.text.now in
    let r : RepliesWith (IsRefusal (HasNoProblem text)) c.from_residual.result = search rules in
    RepliesWith-weaker (IsRefusal (HasNoProblem text)) (DecideReply text) (λ status output h. decide_reply text status output (text_refused text IsDecided status output h)) c.from_residual.result r

pub returns : goal.returns
returns c = let text = c.args.text.now in decide_reply text _ _ (text_posed text IsDecided _ _ c.in_ok-problem.problem c.in_ok-problem.ensures c.in_ok-decide_reply.ensures)
