use Rattle.std.proofs.Common.{◌≡◌, inl, inr, refl, rules}
use Rattle.flow_text.specs.FileViews.{file_parts}
use Rattle.flow_text.specs.Texts.{FirstFault}
use Rattle.flow_laws.proofs.NamedLines.{names_lines}
use Rattle.flow_laws.proofs.SortedFiles.{flow_pairs_sorted}
use Rattle.flow_abstraction.specs.declared.fault.FlowFault.TheVariants.{NoMemory, ProblemTooLarge}
use Rattle.flow_abstraction.specs.Abstracts.{flow_problem_of}
use Rattle.tool_inputs.specs.TextProblem.{IsFaultOf}
use Rattle.tool_inputs.specs.Steps.{IsRefusal}
use Rattle.tool_inputs.specs.ReplySpecs.{RepliesWith}
use Rattle.tool_inputs.proofs.ReplySpecs.{EndsWith-weaker, RepliesWith-weaker}
use Rattle.tool_flow.specs.FlowFaults.{flow_fault_line}
use Rattle.tool_flow.specs.Questions.{HasNoFlowProblem}
use Rattle.tool_flow.specs.Flow.{FlowReply}
use Rattle.tool_flow.specs.Working.FlowReplies.{flow_reply}
use Rattle.tool_flow.proofs.Printability.{name_lines}
use Rattle.tool_flow.proofs.flow.FlowCommandTextCommand.text_reply.Goals as goal

pub returns-in_err-file : goal.returns-in_err-file
returns-in_err-file c =
    let text = c.args.text.now in
    let r : RepliesWith (IsRefusal (IsFaultOf (FirstFault text))) c.from_residual.result = search rules in
    RepliesWith-weaker (IsRefusal (IsFaultOf (FirstFault text))) (FlowReply text) (λ status output h. flow_reply text status output (inl h)) c.from_residual.result r

pub problem_in-requires : goal.problem_in-requires
problem_in-requires c = flow_pairs_sorted c.args.text.now (file_parts c.in_ok-file.file) c.in_ok-file.ensures

pub returns-in_err-found : goal.returns-in_err-found
returns-in_err-found c =
    let text = c.args.text.now in
    let f = file_parts c.in_ok-file.file in
    let r : RepliesWith (IsRefusal (HasNoFlowProblem f)) c.from_residual-in_err-found.result = search rules in
    RepliesWith-weaker (IsRefusal (HasNoFlowProblem f)) (FlowReply text) (λ status output h. flow_reply text status output (inr (f, c.in_ok-file.ensures, inl h))) c.from_residual-in_err-found.result r

pub is_printable-requires-clause-lines : goal.is_printable-requires-clause-lines
is_printable-requires-clause-lines c = let f = file_parts c.in_ok-file.file in name_lines f (names_lines c.args.text.now f c.in_ok-file.ensures)

-- the text of the problem is past a limit
pub returns-then-not-is_printable : goal.returns-then-not-is_printable
returns-then-not-is_printable c =
    let text = c.args.text.now in
    let f = file_parts c.in_ok-file.file in
    let none : HasNoFlowProblem f (flow_fault_line ProblemTooLarge) = record {
      fault = ProblemTooLarge;
      reason = inr (refl, record { parts = flow_problem_of c.in_ok-found.found; problem = c.in_ok-found.ensures.problem; unprintable = c.if-not-is_printable.ensures.no refl });
      printed = refl;
    } in
    EndsWith-weaker (λ status output. (status ≡ 2) × ((ProblemTooLarge ≡ NoMemory → ⊥) × (output ≡ flow_fault_line ProblemTooLarge))) (FlowReply text)
    (λ status output h. flow_reply text status output (inr (f, c.in_ok-file.ensures, inl (h.0, record { fault = ProblemTooLarge; reason = none.reason; printed = h.1.1 }))))
    c.fault_end.result c.fault_end.ensures

pub returns : goal.returns
returns c =
    let found = c.in_ok-found in
    flow_reply c.args.text.now 0 c.in_ok-output.output.items
    (inr (
      file_parts c.in_ok-file.file,
      c.in_ok-file.ensures,
      inr (
        flow_problem_of found.found,
        record {
          has_status = refl;
          problem = record { problem = found.ensures.problem; unrefused = found.ensures.unrefused; printable = c.if-not-is_printable.ensures.yes refl };
          printed = c.in_ok-output.ensures;
        },
      ),
    ))
