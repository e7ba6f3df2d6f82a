use Rattle.std.proofs.Common.{inl, inr, rules}
use Rattle.problem_file.proofs.NumberedStates.{are_in_ranges}
use Rattle.tool_inputs.specs.TextProblem.{IsFaulty}
use Rattle.tool_inputs.specs.Steps.{IsRefusal}
use Rattle.tool_inputs.specs.ReplySpecs.{RepliesWith}
use Rattle.tool_inputs.proofs.Ranges.{numbers_in_range}
use Rattle.tool_inputs.proofs.ReplySpecs.{RepliesWith-weaker}
use Rattle.tool_inputs.proofs.file_command.text_reply.Goals as goal

pub file_reply-requires-clause-read : goal.file_reply-requires-clause-read
file_reply-requires-clause-read g c = (c.args.text.now, c.in_ok-file.ensures)

pub file_reply-requires-clause-numbered : goal.file_reply-requires-clause-numbered
file_reply-requires-clause-numbered g c = are_in_ranges c.args.text.now c.in_ok-file.file c.in_ok-file.ensures

pub file_reply-requires-clause-in_range : goal.file_reply-requires-clause-in_range
file_reply-requires-clause-in_range g c = numbers_in_range c.args.text.now c.in_ok-file.file c.in_ok-file.ensures

pub returns-in_err-file : goal.returns-in_err-file
returns-in_err-file g c =
    let command = c.args.command.now in
    let text = c.args.text.now in
    let r : RepliesWith (IsRefusal (IsFaulty text)) c.from_residual.result = search rules in
    RepliesWith-weaker (IsRefusal (IsFaulty text)) (g.C.FileCommand.replies command text) (λ status output h. g.met.C.FileCommand.is_reply command text status output (inl h)) c.from_residual.result r

pub returns : goal.returns
returns g c =
    let command = c.args.command.now in
    let text = c.args.text.now in
    let file = c.in_ok-file.file in
    RepliesWith-weaker (g.C.FileCommand.steps command file) (g.C.FileCommand.replies command text) (λ status output h. g.met.C.FileCommand.is_reply command text status output (inr (file, c.in_ok-file.ensures, h))) c.file_reply.result c.file_reply.ensures
