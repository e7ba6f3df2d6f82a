-- A text is read as a concrete file with an abstraction, or is refused.
use Rattle.std.proofs.Common.{◌≡◌, ℕ, List, Result, Ok, Err, inl, inr, sym, ap, subst, ◌∙◌}
use Rattle.while_lang.specs.Files.{FileParts}
use Rattle.problem_file.specs.Reads.{Reads}
use Rattle.while_lang.specs.Concrete.{IsConcrete}
use Rattle.abstraction.specs.Abstracts.{abstract_of}
use Rattle.tool_inputs.specs.declared.reply.EarlyEnd.{EarlyEnd}
use Rattle.tool_inputs.specs.TextProblem.{IsFaulty, HasNoAbstraction}
use Rattle.tool_inputs.specs.Steps.{IsRefusal}
use Rattle.tool_inputs.specs.ReplySpecs.{Yields}
use Rattle.tool_inputs.proofs.ReplySpecs.{EndsWith-weaker, Yields-refused}
use Rattle.tool_try.specs.Questions.{IsConcreteText, DeclinesConcrete, IsConcreteFile, DeclinesFile}
use Rattle.tool_try.specs.declared.concrete.ConcreteFile.{ConcreteFile}

-- a concrete file without an abstraction is refused
pub no_abstract : (f : FileParts) → IsConcrete f → (result : Result ConcreteFile EarlyEnd) → Yields (λ s. ⊥) (IsRefusal (HasNoAbstraction f)) result → Yields (IsConcreteFile f) (IsRefusal (DeclinesFile f)) result
no_abstract f concrete result r = Yields-refused (IsConcreteFile f) (IsRefusal (HasNoAbstraction f)) (IsRefusal (DeclinesFile f)) (λ status output h. (h.0, inr (concrete, h.1))) result r

pub no_file : (text : List ℕ) (result : Result ConcreteFile EarlyEnd) → Yields (λ s. ⊥) (IsRefusal (IsFaulty text)) result → Yields (IsConcreteText text) (IsRefusal (DeclinesConcrete text)) result
no_file text result r = Yields-refused (IsConcreteText text) (IsRefusal (IsFaulty text)) (IsRefusal (DeclinesConcrete text)) (λ status output h. (h.0, inl h.1)) result r

pub file_shown : (text : List ℕ) (f : FileParts) → Reads text f → (result : Result ConcreteFile EarlyEnd) → Yields (IsConcreteFile f) (IsRefusal (DeclinesFile f)) result → Yields (IsConcreteText text) (IsRefusal (DeclinesConcrete text)) result
file_shown text f reads (Ok s) h = record { reads = subst (Reads text) (sym h.file) reads; concrete = subst IsConcrete (sym h.file) h.concrete; is_abstract = ap abstract_of h.file ∙ h.is_abstract }
file_shown text f reads (Err stop) h = EndsWith-weaker (IsRefusal (DeclinesFile f)) (IsRefusal (DeclinesConcrete text)) (λ status output n. (n.0, inr (f, reads, n.1))) stop h
