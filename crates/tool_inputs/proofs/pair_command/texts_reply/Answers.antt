use Rattle.std.proofs.Common.{inl, inr, rules}
use Rattle.tool_inputs.specs.Steps.{IsRefusal}
use Rattle.tool_inputs.specs.ReplySpecs.{RepliesWith}
use Rattle.tool_inputs.proofs.ReplySpecs.{RepliesWith-weaker}
use Rattle.tool_inputs.proofs.pair_command.texts_reply.Goals as goal

pub bytes_reply-requires : goal.bytes_reply-requires
bytes_reply-requires g c = (c.args.text.now, c.in_ok-question.ensures)

pub returns-in_err-question : goal.returns-in_err-question
returns-in_err-question g c =
    let command = c.args.command.now in
    let text = c.args.text.now in
    let bytes = c.args.bytes.now in
    let r : RepliesWith (IsRefusal (g.C.Question.TextQuestion.declines text)) c.from_residual.result = search rules in
    RepliesWith-weaker (IsRefusal (g.C.Question.TextQuestion.declines text)) (g.C.PairCommand.replies command text bytes)
    (λ status output h. g.met.C.PairCommand.is_reply command text bytes status output (inl h)) c.from_residual.result r

pub returns : goal.returns
returns g c =
    let command = c.args.command.now in
    let text = c.args.text.now in
    let bytes = c.args.bytes.now in
    let q = c.in_ok-question.question in
    RepliesWith-weaker (g.C.PairCommand.steps command q bytes) (g.C.PairCommand.replies command text bytes)
    (λ status output h. g.met.C.PairCommand.is_reply command text bytes status output (inr (q, c.in_ok-question.ensures, h))) c.bytes_reply.result c.bytes_reply.ensures
