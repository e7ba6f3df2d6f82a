use Rattle.std.proofs.Common.{◌≡◌}
use Rattle.flow_text.specs.FileViews.{file_parts}
use Rattle.flow_abstraction.specs.declared.fault.FlowFault.TheVariants.{NoMemory}
use Rattle.tool_inputs.specs.Steps.{IsRefusal}
use Rattle.tool_inputs.proofs.ReplySpecs.{EndsWith-weaker}
use Rattle.tool_flow.specs.FlowFaults.{flow_fault_line}
use Rattle.tool_flow.specs.Questions.{HasNoFlowProblem}
use Rattle.tool_flow.proofs.FoundProblems.{has_blocks, found_of, none_of}
use Rattle.tool_flow.proofs.flow.problem_in.Goals as goal

pub returns-in-Ok : goal.returns-in-Ok
returns-in-Ok c =
    let f = file_parts c.args.file.now in
    let before = c.graph_at-before.result.now in
    let after = c.graph_at-after.result.now in
    let has = has_blocks f before after (rw c.deref.ensures.value at c.graph_at-before.ensures) (rw c.deref-2.ensures.value at c.graph_at-after.ensures) c.requires in
    found_of f before after has c.in-Ok.found (rw c.deref-3.ensures.value at c.in-Ok.ensures.made) (rw c.deref-3.ensures.value at c.in-Ok.ensures.rules) (rw c.deref-3.ensures.value at c.in-Ok.ensures.faultless)

pub returns-in-Err : goal.returns-in-Err
returns-in-Err c =
    let f = file_parts c.args.file.now in
    let before = c.graph_at-before.result.now in
    let after = c.graph_at-after.result.now in
    let has = has_blocks f before after (rw c.deref.ensures.value at c.graph_at-before.ensures) (rw c.deref-2.ensures.value at c.graph_at-after.ensures) c.requires in
    EndsWith-weaker (λ status output. (status ≡ 2) × ((c.in-Err.fault ≡ NoMemory → ⊥) × (output ≡ flow_fault_line c.in-Err.fault))) (IsRefusal (HasNoFlowProblem f))
    (λ status output h. (h.0, none_of f before after has c.in-Err.fault output (rw c.deref-3.ensures.value at c.in-Err.ensures.refused) h.1.0 h.1.1))
    c.fault_end.result c.fault_end.ensures
