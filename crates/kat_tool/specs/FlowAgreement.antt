-- `flow`, then `decide` or `check` of the text that it printed, shows that two flow graphs agree.
use Rattle.std.specs.Prelude.{ℕ, List}
use Rattle.flow_model.specs.Agreement.{AgreeAlways}
use Rattle.flow_model.specs.Graphs.{Pair}
use Rattle.flow_text.specs.Checking.{FlowFileParts, pair_of}
use Rattle.flow_text.specs.Texts.{IsFlowText}
use Rattle.flow_plain.specs.PlainGraphs.{Declared, graphs_text}
use Rattle.flow_plain.specs.PrintableGraphs.{ArePlainGraphs}
use Rattle.tool_check.specs.Check.{CheckReply}
use Rattle.tool_decide.specs.Decide.{DecideReply}
use Rattle.tool_flow.specs.Flow.{FlowHeadline}

-- If `flow` replies to the text of two graphs with 0, and `decide` replies to what it printed with 0, both graphs always
-- return the same; and so if `check` replies with 0 to what it printed and any evidence, whoever wrote this.
pub record FlowsAgree : Type 0 where
  pub decided : (text output printed : List ℕ) (f : FlowFileParts) → IsFlowText text f → FlowHeadline text 0 output → DecideReply output 0 printed → AgreeAlways (pair_of f)
  pub checked : (text output evidence printed : List ℕ) (f : FlowFileParts) → IsFlowText text f → FlowHeadline text 0 output → CheckReply output evidence 0 printed → AgreeAlways (pair_of f)

-- The same for the plainest text of two graphs: what it says needs no grammar.
pub record PlainFlowsAgree : Type 0 where
  pub decided : (d : Declared) (p : Pair) (output printed : List ℕ) → ArePlainGraphs d p → FlowHeadline (graphs_text d p) 0 output → DecideReply output 0 printed → AgreeAlways p
  pub checked : (d : Declared) (p : Pair) (output evidence printed : List ℕ) → ArePlainGraphs d p → FlowHeadline (graphs_text d p) 0 output → CheckReply output evidence 0 printed → AgreeAlways p
