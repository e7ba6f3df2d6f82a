-- `show`: its reply to a text, and what it says about the file.
use Rattle.std.specs.Prelude.{◌≡◌, ◌≤◌, ◌⊎◌, ◌↔◌, ℕ, List, ◌∷◌, length, Ok, All}
use Rattle.kat_model.specs.declared.limits.TheConstants.{MAX_HYPS, MAX_OPEN, MAX_TEXT_BYTES}
use Rattle.kat_model.specs.Problems.{ProblemParts, IsProblem}
use Rattle.text_parser.specs.ScopeParts.{IsWellFormed}
use Rattle.text_print.specs.Printing.{term_nesting}
use Rattle.while_lang.specs.Files.{FileParts}
use Rattle.problem_file.specs.Reads.{Reads}
use Rattle.abstraction.specs.Abstracts.{AbstractParts, abstract_of}
use Rattle.kat_report.specs.Shows.{show_text}
use Rattle.tool_inputs.specs.FileProblem.{Poses}
use Rattle.tool_inputs.specs.TextProblem.{HasNoProblem}
use Rattle.tool_inputs.specs.Steps.{ReplySpec, ReadsText, AbstractsFile}

-- the abstraction of a file is printed as a text, with the names of the file, which are identifiers; its problem is
-- within the limits of a problem
pub record IsShown (f : FileParts) (a : AbstractParts) (status : ℕ) (output : List ℕ) : Type 0 where
  pub has_status : status ≡ 0
  pub printed : output ≡ show_text f.scope a
  pub well_formed : IsWellFormed f.scope
  pub problem : IsProblem a.problem

-- the steps of the reply to a file, and to a text
abbrev pub ShowsFile : FileParts → ReplySpec
ShowsFile f = AbstractsFile f (IsShown f)

abbrev pub ShowsText : List ℕ → ReplySpec
ShowsText text = ReadsText text ShowsFile

-- the text is read as this file, which has this abstraction
pub record HasAbstract (text : List ℕ) (f : FileParts) (a : AbstractParts) : Type 0 where
  pub reads : Reads text f
  pub is_abstract : abstract_of f ≡ Ok a

-- the question and its text are within the limits of a text: on hypotheses, on open constructs at one place, and on
-- bytes
pub record IsReadable (q : ProblemParts) (text : List ℕ) : Type 0 where
  pub hyps : length q.hyps ≤ MAX_HYPS
  pub shallow : All (λ e. term_nesting e ≤ MAX_OPEN) (q.left ∷ q.right ∷ q.hyps)
  pub short : length text ≤ MAX_TEXT_BYTES

-- The status is 0 exactly when the text is read as a file that has an abstraction, which is printed as a text. Within the
-- limits, the printed text asks exactly the question that the text asks. Otherwise the status is 2, and the text poses no
-- problem, for the reason that its line gives.
pub record ShowHeadline (text : List ℕ) (status : ℕ) (output : List ℕ) : Type 0 where
  pub answers : (status ≡ 0) ⊎ (status ≡ 2)
  pub shown : (status ≡ 0) ↔ ((f : FileParts) × (a : AbstractParts) × HasAbstract text f a)
  pub shown_text : (f : FileParts) (a : AbstractParts) → HasAbstract text f a → output ≡ show_text f.scope a
  pub poses : (q : ProblemParts) → Poses text q → IsReadable q output → Poses output q
  pub refused : (status ≡ 2) ↔ ((line : List ℕ) × HasNoProblem text line)
  pub refused_line : (line : List ℕ) → HasNoProblem text line → output ≡ line

-- what a reply of `show` says about its text
pub record ShowReply (text : List ℕ) (status : ℕ) (output : List ℕ) : Type 0 where
  pub replies : ShowsText text status output
  pub headline : ShowHeadline text status output
