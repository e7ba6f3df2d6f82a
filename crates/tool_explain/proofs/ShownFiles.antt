-- A text is read as a file with an abstraction, or poses no problem.
use Rattle.std.proofs.Common.{ℕ, List, Result, Ok, Err, inl, inr, sym, ap, subst, ◌∙◌}
use Rattle.while_lang.specs.Files.{FileParts}
use Rattle.problem_file.specs.Reads.{Reads}
use Rattle.abstraction.specs.Abstracts.{abstract_of}
use Rattle.tool_inputs.specs.declared.reply.EarlyEnd.{EarlyEnd}
use Rattle.tool_inputs.specs.TextProblem.{IsFaulty, HasNoAbstraction, HasNoProblem}
use Rattle.tool_inputs.specs.Steps.{IsRefusal}
use Rattle.tool_inputs.specs.ReplySpecs.{Yields}
use Rattle.tool_inputs.proofs.ReplySpecs.{EndsWith-weaker, Yields-refused}
use Rattle.tool_explain.specs.declared.shown.ShownFile.{ShownFile}
use Rattle.tool_explain.specs.Working.ShownTexts.{IsShown, IsShownFile}

pub no_file : (text : List ℕ) (result : Result ShownFile EarlyEnd) → Yields (λ s. ⊥) (IsRefusal (IsFaulty text)) result → Yields (IsShown text) (IsRefusal (HasNoProblem text)) result
no_file text result r = Yields-refused (IsShown text) (IsRefusal (IsFaulty text)) (IsRefusal (HasNoProblem text)) (λ status output h. (h.0, inl h.1)) result r

pub file_shown : (text : List ℕ) (f : FileParts) → Reads text f → (result : Result ShownFile EarlyEnd) → Yields (IsShownFile f) (IsRefusal (HasNoAbstraction f)) result → Yields (IsShown text) (IsRefusal (HasNoProblem text)) result
file_shown text f reads (Ok s) h = record { reads = subst (Reads text) (sym h.0) reads; is_abstract = ap abstract_of h.0 ∙ h.1 }
file_shown text f reads (Err stop) h = EndsWith-weaker (IsRefusal (HasNoAbstraction f)) (IsRefusal (HasNoProblem text)) (λ status output n. (n.0, inr (f, reads, n.1))) stop h
