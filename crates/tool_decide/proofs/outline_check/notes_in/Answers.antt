use Rattle.tool_inputs.specs.Steps.{IsRefusal}
use Rattle.tool_decide.specs.OutlineCheck.{IsNoNotes}
use Rattle.tool_inputs.proofs.ReplySpecs.{EndsWith-weaker}
use Rattle.tool_decide.specs.Working.NotesReplies.{fault_is}
use Rattle.tool_decide.proofs.outline_check.notes_in.Goals as goal

pub returns-in-Err : goal.returns-in-Err
returns-in-Err c =
    let bytes = c.args.bytes.now in
    EndsWith-weaker _ (IsRefusal (IsNoNotes bytes))
    (λ status output h. (h.0, record { fault = c.in-Err.fault; first = fault_is bytes c.in-Err.fault h.1.0 c.in-Err.ensures.fault; printed = h.1.1 }))
    c.fault_end.result c.fault_end.ensures
