-- The problem that is the question of a text.
use Rattle.std.specs.Prelude.{◌≡◌, ℕ, List, Ok}
use Rattle.kat_model.specs.Problems.{ProblemParts}
use Rattle.while_lang.specs.Files.{FileParts}
use Rattle.problem_file.specs.Reads.{Reads}
use Rattle.abstraction.specs.Abstracts.{AbstractParts, abstract_of}

-- the question of the text is the problem of the abstraction of its file
pub record Poses (text : List ℕ) (q : ProblemParts) : Type 0 where
  pub file : FileParts
  pub reads : Reads text file
  pub abstract : AbstractParts
  pub is_abstract : abstract_of file ≡ Ok abstract
  pub question : q ≡ abstract.problem

-- the text has a question
abbrev pub HasProblem : List ℕ → Type 0
HasProblem text = (q : ProblemParts) × Poses text q
