-- If both sides of the question of a text are the same, the goal of a concrete file holds for all its stores.
use Rattle.std.proofs.Common.{ℕ, List, subst}
use Rattle.kat_model.specs.Problems.{ProblemParts}
use Rattle.kat_model.specs.Relations.{Same}
use Rattle.while_lang.specs.Files.{FileParts}
use Rattle.problem_file.specs.Reads.{Reads}
use Rattle.while_lang.specs.Concrete.{IsConcrete, Agrees}
use Rattle.problem_file.proofs.OneAnswer.{have_one_answer}
use Rattle.abstraction.proofs.DerivedHypotheses.{derived_hold}
use Rattle.abstraction.proofs.Agreement.{same_agrees}
use Rattle.tool_inputs.specs.FileProblem.{Poses}
use Rattle.tool_inputs.proofs.Ranges.{numbers_in_range}

-- the goal of the file of the question holds
pub posed_agrees : (text : List ℕ) (q : ProblemParts) (poses : Poses text q) → Same q → IsConcrete poses.file → Agrees poses.file
posed_agrees text q poses same concrete =
    let range = numbers_in_range text poses.file poses.reads in
    same_agrees poses.file poses.abstract range poses.is_abstract (derived_hold poses.file poses.abstract range poses.is_abstract) concrete (subst Same poses.question same)

-- the file of the question is the one that the text is read as
pub read_agrees : (text : List ℕ) (q : ProblemParts) → Poses text q → Same q → (f : FileParts) → Reads text f → IsConcrete f → Agrees f
read_agrees text q poses same f reads concrete =
    subst (λ g. IsConcrete g → Agrees g) (have_one_answer.values text poses.file f poses.reads reads) (posed_agrees text q poses same) concrete
