-- `flow`: its reply to a text, and what it says about the graphs of the text.
use Rattle.std.specs.Prelude.{◌≡◌, ◌⊎◌, ◌↔◌, ℕ, List}
use Rattle.kat_model.specs.Problems.{ProblemParts}
use Rattle.kat_model.specs.Relations.{Same}
use Rattle.flow_model.specs.Agreement.{AgreeAlways}
use Rattle.flow_text.specs.Checking.{FlowFileParts, pair_of}
use Rattle.flow_text.specs.Texts.{IsFlowText, FirstFault}
use Rattle.flow_problem.specs.Points.{FlowProblem}
use Rattle.tool_inputs.specs.FileProblem.{Poses}
use Rattle.tool_inputs.specs.TextProblem.{IsFaultOf}
use Rattle.tool_inputs.specs.Steps.{ReplySpec, IsRefusal, ReadsAs}
use Rattle.tool_flow.specs.Questions.{problem_text, HasFlowProblem, HasNoFlowProblem}

-- the problem of a file is printed
pub record IsFlowPrinted (f : FlowFileParts) (p : FlowProblem) (status : ℕ) (output : List ℕ) : Type 0 where
  pub has_status : status ≡ 0
  pub problem : HasFlowProblem f p
  pub printed : output ≡ problem_text f p

-- the steps of the reply to a file, and to a text
abbrev pub FlowsFile : FlowFileParts → ReplySpec
FlowsFile f status output = IsRefusal (HasNoFlowProblem f) status output ⊎ ((p : FlowProblem) × IsFlowPrinted f p status output)

abbrev pub FlowsText : List ℕ → ReplySpec
FlowsText text = ReadsAs (FirstFault text) (IsFlowText text) FlowsFile

-- the text says this file, which has this problem
pub record DenotesProblem (text : List ℕ) (f : FlowFileParts) (p : FlowProblem) : Type 0 where
  pub denotes : IsFlowText text f
  pub problem : HasFlowProblem f p

-- the text says no problem: it has a first fault, or its file has no problem; the line gives the reason
abbrev pub DenotesNoProblem : List ℕ → List ℕ → Type 0
DenotesNoProblem text line = IsFaultOf (FirstFault text) line ⊎ ((f : FlowFileParts) × IsFlowText text f × HasNoFlowProblem f line)

-- The status is 0 exactly when the text says a file that has a problem, whose text is then printed. The printed text asks
-- a question, and if both sides of that question are the same, both graphs of the file always return the same. Otherwise
-- the status is 2, and the text says no problem, for the reason that its line gives.
pub record FlowHeadline (text : List ℕ) (status : ℕ) (output : List ℕ) : Type 0 where
  pub answers : (status ≡ 0) ⊎ (status ≡ 2)
  pub printed : (status ≡ 0) ↔ ((f : FlowFileParts) × (p : FlowProblem) × DenotesProblem text f p)
  pub printed_text : (f : FlowFileParts) (p : FlowProblem) → DenotesProblem text f p → output ≡ problem_text f p
  pub poses : (f : FlowFileParts) (p : FlowProblem) → DenotesProblem text f p → Poses output p.problem
  pub agrees : (f : FlowFileParts) → IsFlowText text f → status ≡ 0 → (q : ProblemParts) → Poses output q → Same q → AgreeAlways (pair_of f)
  pub refused : (status ≡ 2) ↔ ((line : List ℕ) × DenotesNoProblem text line)
  pub refused_line : status ≡ 2 → DenotesNoProblem text output

-- what a reply of `flow` says about its text
pub record FlowReply (text : List ℕ) (status : ℕ) (output : List ℕ) : Type 0 where
  pub replies : FlowsText text status output
  pub headline : FlowHeadline text status output
