-- A text has a question, or a reason why it has none.
use Rattle.std.proofs.Common.{◌≡◌, ◌<◌, ℕ, List, length, Result, Ok, Err, inl, inr, refl, sym, subst, ◌∙◌}
use Rattle.kat_model.specs.declared.limits.TheConstants.{MAX_TEXT_BYTES}
use Rattle.kat_model.specs.Problems.{ProblemParts}
use Rattle.text_parser.specs.declared.fault.TextFault.TheVariants.{TooLong}
use Rattle.kat_report.specs.InputLines.{too_long_line}
use Rattle.problem_file.specs.FirstFaults.{too_long, no_text}
use Rattle.problem_file.proofs.OneAnswer.{have_one_answer}
use Rattle.abstraction.specs.Abstracts.{abstract_of}
use Rattle.tool_inputs.specs.FileProblem.{Poses, HasProblem}
use Rattle.tool_inputs.specs.TextProblem.{HasNoProblem}

-- a result is not both a value and an error
pub not_both : {X Y : Type 0} (r : Result X Y) (x : X) (y : Y) → r ≡ Ok x → r ≡ Err y → ⊥
not_both r x y e h = let both : Ok x ≡ Err y = sym e ∙ h in absurd cc

-- no text both has a question and has a reason why it has none
pub problem_or_none : (text line : List ℕ) → HasNoProblem text line → HasProblem text → ⊥
problem_or_none text line (inl faulty) (q, poses) = have_one_answer.either text poses.file faulty.fault poses.reads faulty.first
problem_or_none text line (inr (f, reads, none)) (q, poses) =
    not_both (abstract_of f) poses.abstract none.fault (subst (λ g. abstract_of g ≡ Ok poses.abstract) (have_one_answer.values text poses.file f poses.reads reads) poses.is_abstract) none.has_none

pub has_problem : (text : List ℕ) (q : ProblemParts) → Poses text q → HasProblem text
has_problem text q poses = (q, poses)

-- a text that is too long has none
pub long_problem : (text : List ℕ) → MAX_TEXT_BYTES < length text → HasNoProblem text too_long_line
long_problem text past = inl (record { fault = TooLong; first = no_text (too_long refl past); printed = refl })
