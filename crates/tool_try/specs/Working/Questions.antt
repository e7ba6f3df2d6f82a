-- A text is read as a concrete file with an abstraction, or there is a reason why it is not.
use Rattle.std.proofs.Common.{◌≡◌, ◌<◌, ℕ, List, length, Result, Ok, Err, inl, inr, refl, sym, subst, ◌∙◌}
use Rattle.kat_model.specs.declared.limits.TheConstants.{MAX_TEXT_BYTES}
use Rattle.text_parser.specs.declared.fault.TextFault.TheVariants.{TooLong}
use Rattle.kat_report.specs.InputLines.{too_long_line}
use Rattle.problem_file.specs.FirstFaults.{too_long, no_text}
use Rattle.while_lang.specs.Files.{FileParts}
use Rattle.while_lang.specs.Concrete.{IsConcrete}
use Rattle.problem_file.proofs.OneAnswer.{have_one_answer}
use Rattle.abstraction.specs.Abstracts.{AbstractParts, abstract_of}
use Rattle.tool_inputs.specs.TextProblem.{HasNoAbstraction}
use Rattle.tool_inputs.specs.Steps.{ReplySpec, IsRefusal, ReadsText, AbstractsFile, PosesFor}
use Rattle.tool_inputs.specs.Working.Questions.{not_both}
use Rattle.tool_try.specs.TryTexts.{not_concrete_line}
use Rattle.tool_try.specs.Try.{TakesFile}
use Rattle.tool_try.specs.Questions.{IsConcreteText, HasConcrete, DeclinesFile, DeclinesConcrete}
use Rattle.tool_try.specs.declared.concrete.ConcreteFile.{ConcreteFile}

pub some_concrete : (text : List ℕ) (s : ConcreteFile) → IsConcreteText text s → HasConcrete text
some_concrete text s is = record { file = s.file; abstract = s.shown; reads = is.reads; concrete = is.concrete; is_abstract = is.is_abstract }

file_or_none : (f : FileParts) (a : AbstractParts) (line : List ℕ) → IsConcrete f → abstract_of f ≡ Ok a → DeclinesFile f line → ⊥
file_or_none f a line concrete is (inl none) = none.0 concrete
file_or_none f a line concrete is (inr none) = not_both (abstract_of f) a none.1.fault is none.1.has_none

pub concrete_or_none : (text line : List ℕ) → DeclinesConcrete text line → HasConcrete text → ⊥
concrete_or_none text line (inl faulty) has = have_one_answer.either text has.file faulty.fault has.reads faulty.first
concrete_or_none text line (inr (f, reads, none)) has =
    let P : FileParts → Type 0 = λ g. IsConcrete g × (abstract_of g ≡ Ok has.abstract) in
    let same = subst P (have_one_answer.values text has.file f has.reads reads) (has.concrete, has.is_abstract) in
    file_or_none f has.abstract line same.0 same.1 none

pub long_concrete : (text : List ℕ) → MAX_TEXT_BYTES < length text → DeclinesConcrete text too_long_line
long_concrete text past = inl (record { fault = TooLong; first = no_text (too_long refl past); printed = refl })

-- the steps of a reply to a text, by those to its file and abstraction
module _ (text : List ℕ) (GoesOn : FileParts → AbstractParts → ReplySpec) where
  abbrev pub GoesOnText : ReplySpec
  GoesOnText = ReadsText text (λ f. TakesFile (IsConcrete f) not_concrete_line (AbstractsFile f (GoesOn f)))

  declined_text : (status : ℕ) (output : List ℕ) → IsRefusal (DeclinesConcrete text) status output → GoesOnText status output
  declined_text status output (two, inl faulty) = inl (two, faulty)
  declined_text status output (two, inr (f, reads, inl none)) = inr (f, reads, inl (none.0, (two, none.1)))
  declined_text status output (two, inr (f, reads, inr none)) = inr (f, reads, inr (none.0, inl (two, none.1)))

  pub posed_text : (status : ℕ) (output : List ℕ) → PosesFor (DeclinesConcrete text) (IsConcreteText text) (λ s. GoesOn s.file s.shown) status output → GoesOnText status output
  posed_text status output (inl r) = declined_text status output r
  posed_text status output (inr (s, is, r)) = inr (s.file, is.reads, inr (is.concrete, inr (s.shown, is.is_abstract, r)))
