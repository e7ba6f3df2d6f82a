-- The reply of `decide` with `--json` satisfies the statement on the question, as the reply of `decide` does.
use Rattle.std.proofs.Common.{◌≡◌, ℕ, List, Ok, inl, ⊎_elim, arith}
use Rattle.kat_model.specs.Problems.{ProblemParts}
use Rattle.while_lang.specs.Files.{FileParts}
use Rattle.problem_file.specs.Reads.{Reads}
use Rattle.while_lang.specs.Concrete.{IsConcrete, Agrees}
use Rattle.abstraction.specs.Abstracts.{AbstractParts, abstract_of}
use Rattle.abstraction.specs.Readings.{Reading, KeepsStated, GoalHoldsBy}
use Rattle.tool_inputs.specs.FileProblem.{Poses}
use Rattle.kat_report.specs.InputLines.{too_long_line}
use Rattle.tool_inputs.specs.Steps.{PosesQuestion}
use Rattle.tool_decide.specs.DecideJson.{IsReported, ReportsText, ReportHeadline, DecideJsonReply}
use Rattle.tool_inputs.proofs.Steps.{OneStatus, reads_denoted, text_poses, abstracted_none, text_small, text_long, text_once}
use Rattle.tool_inputs.proofs.FileReplies.{RefusesLong, HasOneReply}
use Rattle.tool_decide.specs.Working.DecideReplies.{decided_headline, decided_once, question_stores, same_readings, decided_small}

reported_headline : (q : ProblemParts) (status : ℕ) (output : List ℕ) → IsReported q status output → ReportHeadline q status output
reported_headline q status output r = record { text = r.text; headline = decided_headline q status r.text r.decided; report = r.report }

pub text_headline : (text : List ℕ) (status : ℕ) (output : List ℕ) (q : ProblemParts) → Poses text q → ReportsText text status output → ReportHeadline q status output
text_headline text status output q poses r = reported_headline q status output (text_poses text IsReported status output q poses r)

pub text_stores : (text : List ℕ) (status : ℕ) (output : List ℕ) (f : FileParts) → Reads text f → IsConcrete f → ReportsText text status output → status ≡ 0 → Agrees f
text_stores text status output f reads concrete r zero =
    ⊎_elim
    (λ refused. absurd (omega (arith, zero, refused.0)))
    (λ h. question_stores text f reads concrete h.0 h.1 status h.2.text h.2.decided zero)
    (reads_denoted text (λ g. PosesQuestion g IsReported) status output f reads r)

pub text_readings : (text : List ℕ) (status : ℕ) (output : List ℕ) (f : FileParts) (a : AbstractParts) (r : Reading) → Reads text f → abstract_of f ≡ Ok a → KeepsStated f a r
    → ReportsText text status output → status ≡ 0 → GoalHoldsBy f a r f.goal
text_readings text status output f a r reads is stated replies zero =
    same_readings text f a r reads is stated (λ poses. (text_headline text status output a.problem poses replies).headline.equal.0 zero)

pub reported_once : (q : ProblemParts) → OneStatus (IsReported q)
reported_once q a b o p x y = decided_once q a b x.text y.text x.decided y.decided

-- ---- what the reply says

pub decide_json_reply : (text : List ℕ) (status : ℕ) (output : List ℕ) → ReportsText text status output → DecideJsonReply text status output
decide_json_reply text status output r = record {
  replies = r;
  headline = λ q poses. text_headline text status output q poses r;
  stores = λ f reads concrete zero. text_stores text status output f reads concrete r zero;
  readings = λ f a reading reads is stated zero. text_readings text status output f a reading reads is stated r zero;
  declined = λ line none. abstracted_none text (λ f a. IsReported a.problem) status output line none r;
}

pub decide_json_long : RefusesLong DecideJsonReply
decide_json_long text past = decide_json_reply text 2 too_long_line (text_long text (λ f. PosesQuestion f IsReported) past)

pub decide_json_one : (text : List ℕ) → HasOneReply (DecideJsonReply text) ⊥
decide_json_one text = record {
  small = λ status output r. inl (text_small text IsReported (λ q k o d. decided_small q k d.text d.decided) status output r.replies);
  once = λ a b o p x y. text_once text IsReported reported_once a b o p x.replies y.replies;
}
