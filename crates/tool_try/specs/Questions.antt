-- Texts that are read as concrete files with an abstraction, and the lines that refuse other texts.
use Rattle.std.specs.Prelude.{◌≡◌, ◌⊎◌, ℕ, List, Ok}
use Rattle.while_lang.specs.Files.{FileParts}
use Rattle.problem_file.specs.Reads.{Reads}
use Rattle.while_lang.specs.Concrete.{IsConcrete}
use Rattle.abstraction.specs.Abstracts.{AbstractParts, abstract_of}
use Rattle.tool_inputs.specs.TextProblem.{IsFaulty, HasNoAbstraction}
use Rattle.tool_try.specs.TryTexts.{not_concrete_line}
use Rattle.tool_try.specs.declared.concrete.ConcreteFile.{ConcreteFile}

-- the text is read as this file, which is concrete, and this is its abstraction
pub record IsConcreteText (text : List ℕ) (s : ConcreteFile) : Type 0 where
  pub reads : Reads text s.file
  pub concrete : IsConcrete s.file
  pub is_abstract : abstract_of s.file ≡ Ok s.shown

-- some text is read as a concrete file with an abstraction
pub record HasConcrete (text : List ℕ) : Type 0 where
  pub file : FileParts
  pub abstract : AbstractParts
  pub reads : Reads text file
  pub concrete : IsConcrete file
  pub is_abstract : abstract_of file ≡ Ok abstract

-- the concrete file with its abstraction
pub record IsConcreteFile (f : FileParts) (s : ConcreteFile) : Type 0 where
  pub file : s.file ≡ f
  pub concrete : IsConcrete f
  pub is_abstract : abstract_of f ≡ Ok s.shown

-- the file is not concrete, or has no abstraction; the printed line gives the reason
abbrev pub DeclinesFile : FileParts → List ℕ → Type 0
DeclinesFile f line = ((IsConcrete f → ⊥) × (line ≡ not_concrete_line)) ⊎ (IsConcrete f × HasNoAbstraction f line)

-- the text is not read as a concrete file with an abstraction; the printed line gives the reason
abbrev pub DeclinesConcrete : List ℕ → List ℕ → Type 0
DeclinesConcrete text line = IsFaulty text line ⊎ ((f : FileParts) × Reads text f × DeclinesFile f line)
