use Rattle.std.proofs.Common.{subst, ◌∙◌}
use Rattle.std.proofs.lemmas.Result.{IfOk-weaker}
use Rattle.outline_rules.specs.Tasks.{task_parts}
use Rattle.outline_rules.specs.Reasons.{IsNoteAnswer}
use Rattle.tool_decide.specs.Working.NotesReplies.{notes_accepted, notes_rejected}
use Rattle.tool_decide.proofs.outline_check.check_reply.Goals as goal

pub returns-in-Accepted : goal.returns-in-Accepted
returns-in-Accepted c =
    let q = c.args.problem.now in
    let t = task_parts c.args.task.now in
    let ns = c.args.notes.now in
    let follows = subst (IsNoteAnswer q t ns) c.in-Accepted.is c.in_ok-check_notes.ensures in
    IfOk-weaker c.line.result _ _ (λ r e. notes_accepted q t ns r.status r.output.items c.requires.triple follows (e.0, e.1 ∙ c.accepted_outline_line.ensures)) c.line.ensures

pub returns-in-Rejected : goal.returns-in-Rejected
returns-in-Rejected c =
    let q = c.args.problem.now in
    let t = task_parts c.args.task.now in
    let ns = c.args.notes.now in
    let first = subst (IsNoteAnswer q t ns) c.in-Rejected.is c.in_ok-check_notes.ensures in
    IfOk-weaker c.rejection.result _ _ (λ r e. notes_rejected q t ns r.status r.output.items c.in-Rejected.reason first e) c.rejection.ensures
