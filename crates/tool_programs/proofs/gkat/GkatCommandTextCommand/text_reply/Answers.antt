use Rattle.std.proofs.Common.{inl, inr, refl, rules}
use Rattle.gkat_front.specs.FileViews.{file_parts}
use Rattle.gkat_front.specs.Reads.{FirstFault}
use Rattle.tool_inputs.specs.TextProblem.{IsFaultOf}
use Rattle.tool_inputs.specs.Steps.{IsRefusal}
use Rattle.tool_inputs.specs.ReplySpecs.{RepliesWith}
use Rattle.tool_inputs.proofs.ReplySpecs.{RepliesWith-weaker}
use Rattle.tool_programs.specs.Gkat.{GkatReply}
use Rattle.tool_programs.specs.Working.GkatReplies.{gkat_reply}
use Rattle.tool_programs.proofs.gkat.GkatCommandTextCommand.text_reply.Goals as goal

pub returns-in_err-file : goal.returns-in_err-file
returns-in_err-file c =
    let text = c.args.text.now in
    let r : RepliesWith (IsRefusal (IsFaultOf (FirstFault text))) c.from_residual.result = search rules in
    RepliesWith-weaker (IsRefusal (IsFaultOf (FirstFault text))) (GkatReply text) (λ status output h. gkat_reply text status output (inl h)) c.from_residual.result r

pub returns : goal.returns
returns c = gkat_reply c.args.text.now 0 c.in_ok-translation.field-0.items (inr (file_parts c.in_ok-file.file, c.in_ok-file.ensures, record { has_status = refl; printed = c.in_ok-translation.ensures; well_formed = c.know_names.ensures }))
