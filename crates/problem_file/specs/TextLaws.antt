-- The reading of a plain text.
use Rattle.std.specs.Prelude.{◌≡◌, ◌<◌, ℕ, List, Some}
use Rattle.std.specs.Option.{option_map}
use Rattle.kat_model.specs.Problems.{ProblemParts}
use Rattle.kat_model.specs.declared.expression.Width.{Width}
use Rattle.text_parser.specs.declared.meaning.Meaning.{Meaning}
use Rattle.text_parser.specs.declared.meaning.Meaning.TheVariants.{Var}
use Rattle.text_parser.specs.ScopeParts.{Means}
use Rattle.while_lang.specs.Programs.{ProgTree}
use Rattle.while_lang.specs.Concrete.{IsConcrete}
use Rattle.while_lang.specs.Files.{term_side, prog_side, GoalTree, equal, FileParts, prog_named}
use Rattle.problem_file.specs.Reads.{Reads}

-- the text reads as a file with a goal `equal`; `q` is the question about its two sides, with the file's declarations
-- and hypotheses
pub record PosesEqual (text : List ℕ) (q : ProblemParts) : Type 0 where
  pub file : FileParts
  pub reads : Reads text file
  pub goal : file.goal ≡ equal (term_side q.left) (term_side q.right)
  pub question : q ≡ record { tests = file.tests; actions = file.actions; hyps = file.hyps; left = q.left; right = q.right }

-- the text reads as a file with this goal about programs, over `v` variables of width `w`, and nothing else
pub record PosesPrograms (text : List ℕ) (w : Width) (v : ℕ) (posed : GoalTree) : Type 0 where
  pub file : FileParts
  pub reads : Reads text file
  pub width : file.width ≡ w
  pub vars : file.vars ≡ v
  pub rounds : file.rounds ≡ 1
  pub concrete : IsConcrete file
  pub goal : file.goal ≡ posed

-- the text reads as a file with this program, of width `w` over variables with these names, and the goal that it equals
-- itself
pub record DenotesProgram (text : List ℕ) (names : Meaning → List ℕ) (w : Width) (v : ℕ) (name : List ℕ) (p : ProgTree) : Type 0 where
  pub poses : PosesPrograms text w v (equal (prog_side p) (prog_side p))
  pub variables : (k : ℕ) → k < v → Means poses.file.scope (names (Var k)) (Var k)
  pub program : option_map (λ d. d.tree) (prog_named poses.file.scope poses.file.progs name) ≡ Some p
