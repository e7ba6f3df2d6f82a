-- `decide` with `--json`: its reply is that of `decide`, with a report of the evidence instead of its text.
use Rattle.std.specs.Prelude.{◌≡◌, ℕ, List, Ok}
use Rattle.kat_model.specs.Problems.{ProblemParts}
use Rattle.certificate.specs.declared.evidence.Evidence.{Evidence}
use Rattle.while_lang.specs.Files.{FileParts}
use Rattle.problem_file.specs.Reads.{Reads}
use Rattle.while_lang.specs.Concrete.{IsConcrete, Agrees}
use Rattle.abstraction.specs.Abstracts.{AbstractParts, abstract_of}
use Rattle.abstraction.specs.Readings.{Reading, KeepsStated, GoalHoldsBy}
use Rattle.kat_report.specs.Reports.{json_report}
use Rattle.tool_inputs.specs.FileProblem.{Poses}
use Rattle.tool_inputs.specs.TextProblem.{HasNoProblem}
use Rattle.tool_inputs.specs.EvidenceBytes.{Spells}
use Rattle.tool_inputs.specs.Steps.{ReplySpec, PosesText}
use Rattle.tool_decide.specs.Decide.{IsDecided, Headline}

-- the text spells evidence, and the report of this evidence is printed
pub record IsReportOf (q : ProblemParts) (text output : List ℕ) : Type 0 where
  pub evidence : Evidence
  pub spells : Spells text evidence
  pub printed : output ≡ json_report q evidence

-- the reply to a problem: the report of a text that `decide` may reply with the same status
pub record IsReported (q : ProblemParts) (status : ℕ) (output : List ℕ) : Type 0 where
  pub text : List ℕ
  pub decided : IsDecided q status text
  pub report : IsReportOf q text output

-- the steps of the reply to a text
abbrev pub ReportsText : List ℕ → ReplySpec
ReportsText text = PosesText text IsReported

-- the headline of `decide` holds for the status and the text of the reported evidence
pub record ReportHeadline (q : ProblemParts) (status : ℕ) (output : List ℕ) : Type 0 where
  pub text : List ℕ
  pub headline : Headline q status text
  pub report : IsReportOf q text output

-- what a reply of `decide` with `--json` says about its text, as in `DecideReply`
pub record DecideJsonReply (text : List ℕ) (status : ℕ) (output : List ℕ) : Type 0 where
  pub replies : ReportsText text status output
  pub headline : (q : ProblemParts) → Poses text q → ReportHeadline q status output
  pub stores : (f : FileParts) → Reads text f → IsConcrete f → status ≡ 0 → Agrees f
  pub readings : (f : FileParts) (a : AbstractParts) (r : Reading) → Reads text f → abstract_of f ≡ Ok a → KeepsStated f a r → status ≡ 0 → GoalHoldsBy f a r f.goal
  pub declined : (line : List ℕ) → HasNoProblem text line → (status ≡ 2) × (output ≡ line)
