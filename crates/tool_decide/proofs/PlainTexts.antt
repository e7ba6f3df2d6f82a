-- The plainest text of a question asks that question.
use Rattle.std.proofs.Common.{◌≡◌, ℕ, List, sym, subst}
use Rattle.kat_model.specs.Problems.{ProblemParts}
use Rattle.problem_file.specs.Questions.{question_text, IsPrintable}
use Rattle.problem_file.proofs.PlainReadings.{reads_back}
use Rattle.tool_inputs.specs.FileProblem.{Poses}
use Rattle.tool_inputs.proofs.EqualGoals.{poses_equal}
use Rattle.tool_decide.specs.Decide.{DecidesText, Headline}
use Rattle.tool_decide.specs.Working.DecideReplies.{text_headline}

pub plain_poses : (q : ProblemParts) → IsPrintable q → Poses (question_text q) q
plain_poses q printable = poses_equal (question_text q) q printable.problem (reads_back q printable)

pub plain_headline : (text : List ℕ) (status : ℕ) (output : List ℕ) (q : ProblemParts) → IsPrintable q → text ≡ question_text q → DecidesText text status output → Headline q status output
plain_headline text status output q printable same r = text_headline text status output q (subst (λ t. Poses t q) (sym same) (plain_poses q printable)) r
