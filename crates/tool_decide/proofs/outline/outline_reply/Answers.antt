use Rattle.std.proofs.Common.{inl, inr, refl}
use Rattle.std.proofs.lemmas.Result.{IfOk-weaker}
use Rattle.outline_rules.specs.Tasks.{task_parts}
use Rattle.tool_decide.specs.Working.OutlineReplies.{noted_at, none_at, fails_decided}
use Rattle.tool_decide.proofs.outline.outline_reply.Goals as goal

pub notes_text-requires : goal.notes_text-requires
notes_text-requires c = (noted_at c.args.problem.now (task_parts c.args.task.now) _ c.in_ok-notes.ensures _ c.in-Some.is).1.tests

pub returns-in_ok-notes_text-in-Some : goal.returns-in_ok-notes_text-in-Some
returns-in_ok-notes_text-in-Some c =
    let h = noted_at c.args.problem.now (task_parts c.args.task.now) _ c.in_ok-notes.ensures _ c.in-Some.is in
    inl (refl, record { same = h.0; notes = c.in-Some.notes; follows = h.1; printed = c.in_ok-notes_text-in-Some.ensures })

pub returns-in-None : goal.returns-in-None
returns-in-None c =
    let fails = none_at c.args.problem.now (task_parts c.args.task.now) _ c.in_ok-notes.ensures c.in-None.is in
    IfOk-weaker c.decide_reply.result _ _ (λ r decided. inr (fails_decided c.args.problem.now r.status r.output.items fails decided)) c.decide_reply.ensures
