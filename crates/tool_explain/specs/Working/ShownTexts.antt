-- Texts that are read as files with an abstraction.
use Rattle.std.proofs.Common.{◌≡◌, ℕ, List, Ok, inl, inr, refl}
use Rattle.while_lang.specs.Files.{FileParts}
use Rattle.problem_file.specs.Reads.{Reads}
use Rattle.abstraction.specs.Abstracts.{AbstractParts, abstract_of}
use Rattle.tool_inputs.specs.FileProblem.{HasProblem}
use Rattle.tool_inputs.specs.TextProblem.{HasNoProblem}
use Rattle.tool_inputs.specs.Steps.{ReplySpec, IsRefusal, ReadsText, AbstractsFile, PosesFor}
use Rattle.tool_explain.specs.declared.shown.ShownFile.{ShownFile}

-- the text is read as this file, and the file has this abstraction
pub record IsShown (text : List ℕ) (s : ShownFile) : Type 0 where
  pub reads : Reads text s.file
  pub is_abstract : abstract_of s.file ≡ Ok s.shown

-- the file with its abstraction
abbrev pub IsShownFile : FileParts → ShownFile → Type 0
IsShownFile f s = (s.file ≡ f) × (abstract_of f ≡ Ok s.shown)

pub shown_has_problem : (text : List ℕ) (s : ShownFile) → IsShown text s → HasProblem text
shown_has_problem text s is = (s.shown.problem, record { file = s.file; reads = is.reads; abstract = s.shown; is_abstract = is.is_abstract; question = refl })

-- the steps of a reply to a text, by those to its file and abstraction
module _ (text : List ℕ) (GoesOn : FileParts → AbstractParts → ReplySpec) where
  refused_text : (status : ℕ) (output : List ℕ) → IsRefusal (HasNoProblem text) status output → ReadsText text (λ f. AbstractsFile f (GoesOn f)) status output
  refused_text status output (two, inl faulty) = inl (two, faulty)
  refused_text status output (two, inr (f, reads, none)) = inr (f, reads, inl (two, none))

  pub shown_text : (status : ℕ) (output : List ℕ) → PosesFor (HasNoProblem text) (IsShown text) (λ s. GoesOn s.file s.shown) status output → ReadsText text (λ f. AbstractsFile f (GoesOn f)) status output
  shown_text status output (inl r) = refused_text status output r
  shown_text status output (inr (s, is, r)) = inr (s.file, is.reads, inr (s.shown, is.is_abstract, r))
