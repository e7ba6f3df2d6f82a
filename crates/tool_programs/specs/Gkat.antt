-- `gkat`: its reply to a text, and what it says about the text.
use Rattle.std.specs.Prelude.{◌≡◌, ◌≤◌, ◌⊎◌, ◌↔◌, ℕ, List, [], ◌++◌, codes}
use Rattle.kat_model.specs.declared.limits.TheConstants.{MAX_TERM_NODES}
use Rattle.kat_model.specs.Problems.{ProblemParts, problem_size}
use Rattle.text_parser.specs.declared.meaning.Meaning.TheVariants.{Test, Action}
use Rattle.text_parser.specs.ScopeParts.{IsWellFormed}
use Rattle.text_print.specs.Printing.{name_of}
use Rattle.problem_file.specs.Questions.{goal_text}
use Rattle.problem_file.specs.NamedTexts.{names_line}
use Rattle.gkat_front.specs.Expressions.{kat_of}
use Rattle.gkat_front.specs.Files.{GkatFileParts}
use Rattle.gkat_front.specs.Reads.{Reads, FirstFault}
use Rattle.tool_inputs.specs.FileProblem.{Poses}
use Rattle.tool_inputs.specs.TextProblem.{IsFaultOf}
use Rattle.tool_inputs.specs.Steps.{ReplySpec, ReadsAs}
use Rattle.tool_programs.specs.Show.{IsReadable}

-- the tests and actions of the file, and its question over the terms of its expressions
abbrev pub gkat_text : GkatFileParts → List ℕ
gkat_text f =
    names_line (codes "test") (name_of f.scope) Test f.tests ++ names_line (codes "action") (name_of f.scope) Action f.actions ++ goal_text (name_of f.scope) (kat_of f.left) (kat_of f.right)

-- the question whether the terms of both expressions are equal
abbrev pub gkat_question : GkatFileParts → ProblemParts
gkat_question f = record { tests = f.tests; actions = f.actions; hyps = []; left = kat_of f.left; right = kat_of f.right }

-- the text is printed, with the names of the file, which are identifiers
pub record IsTranslated (f : GkatFileParts) (status : ℕ) (output : List ℕ) : Type 0 where
  pub has_status : status ≡ 0
  pub printed : output ≡ gkat_text f
  pub well_formed : IsWellFormed f.scope

-- the steps of the reply to a text
abbrev pub TranslatesText : List ℕ → ReplySpec
TranslatesText text = ReadsAs (FirstFault text) (Reads text) IsTranslated

-- The status is 0 exactly when the text is read as a file, whose problem is then printed as a text. If the terms of both
-- expressions are within the limit of a problem, and the printed text is within the limits of a text, the printed text
-- asks exactly whether these terms are equal. The status is 2 exactly when the text has a first fault, whose line is
-- then printed.
pub record GkatHeadline (text : List ℕ) (status : ℕ) (output : List ℕ) : Type 0 where
  pub answers : (status ≡ 0) ⊎ (status ≡ 2)
  pub translated : (status ≡ 0) ↔ ((f : GkatFileParts) × Reads text f)
  pub translated_text : (f : GkatFileParts) → Reads text f → output ≡ gkat_text f
  pub poses : (f : GkatFileParts) → Reads text f → problem_size (gkat_question f) ≤ MAX_TERM_NODES → IsReadable (gkat_question f) output → Poses output (gkat_question f)
  pub refused : (status ≡ 2) ↔ ((line : List ℕ) × IsFaultOf (FirstFault text) line)
  pub refused_line : (line : List ℕ) → IsFaultOf (FirstFault text) line → output ≡ line

-- what a reply of `gkat` says about its text
pub record GkatReply (text : List ℕ) (status : ℕ) (output : List ℕ) : Type 0 where
  pub replies : TranslatesText text status output
  pub headline : GkatHeadline text status output
