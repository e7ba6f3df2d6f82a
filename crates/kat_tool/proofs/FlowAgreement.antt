-- Two flow graphs agree if both sides of the question that `flow` printed are the same.
use Rattle.std.proofs.Common.{ℕ, List, refl, subst}
use Rattle.kat_model.specs.Problems.{ProblemParts}
use Rattle.kat_model.specs.Relations.{Same}
use Rattle.flow_model.specs.Agreement.{AgreeAlways}
use Rattle.flow_text.specs.Checking.{FlowFileParts, pair_of}
use Rattle.flow_text.specs.Texts.{IsFlowText}
use Rattle.flow_plain.specs.PlainGraphs.{graphs_text}
use Rattle.flow_plain.proofs.ReadBack.{read_back}
use Rattle.tool_inputs.specs.FileProblem.{Poses}
use Rattle.tool_flow.specs.Flow.{FlowHeadline}
use Rattle.kat_tool.specs.FlowAgreement.{FlowsAgree, PlainFlowsAgree}

agree : (text output : List ℕ) (f : FlowFileParts) → IsFlowText text f → FlowHeadline text 0 output → ((q : ProblemParts) → Poses output q → Same q) → AgreeAlways (pair_of f)
agree text output f is flow same =
    let printed = flow.printed.0 refl in
    let q = printed.1.problem in
    let poses : Poses output q = flow.poses printed.0 printed.1 printed.2 in
    flow.agrees f is refl q poses (same q poses)

pub flows_agree : FlowsAgree
flows_agree = record {
  decided = λ text output printed f is flow reply. agree text output f is flow (λ q poses. (reply.headline q poses).equal.0 refl);
  checked = λ text output evidence printed f is flow reply. agree text output f is flow (λ q poses. ((reply.headline q poses).equal refl).3);
}

pub plain_flows_agree : PlainFlowsAgree
plain_flows_agree = record {
  decided = λ d p output printed plain flow reply.
      let back = read_back d p plain in subst AgreeAlways back.2.graphs (flows_agree.decided (graphs_text d p) output printed back.0 back.1 flow reply);
  checked = λ d p output evidence printed plain flow reply.
      let back = read_back d p plain in subst AgreeAlways back.2.graphs (flows_agree.checked (graphs_text d p) output evidence printed back.0 back.1 flow reply);
}
