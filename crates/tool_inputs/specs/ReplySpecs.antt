-- The values of the steps of a reply, or the reply with which they stop.
use Rattle.std.specs.Prelude.{◌≡◌, ◌⊎◌, ℕ, List, Result, Ok, Err}
use Rattle.kat_model.specs.declared.tree.NoMemory.{NoMemory as OutOfMemory}
use Rattle.kat_model.specs.Problems.{ProblemParts}
use Rattle.while_lang.specs.Files.{FileParts}
use Rattle.abstraction.specs.Abstracts.{AbstractParts, abstract_of}
use Rattle.tool_inputs.specs.declared.reply.Reply.{Reply}
use Rattle.tool_inputs.specs.declared.reply.EarlyEnd.{EarlyEnd}
use Rattle.tool_inputs.specs.declared.reply.EarlyEnd.TheVariants.{NoMemory, Replied}
use Rattle.tool_inputs.specs.FileProblem.{Poses}
use Rattle.tool_inputs.specs.TextProblem.{HasNoProblem}
use Rattle.tool_inputs.specs.Steps.{ReplySpec, IsRefusal}

-- memory ran out, or the reply satisfies `IsSo`
abbrev pub EndsWith : ReplySpec → EarlyEnd → Type 0
EndsWith IsSo NoMemory = Unit {0}
EndsWith IsSo (Replied r) = IsSo r.status r.output.items

-- the value satisfies `IsValue`, or the command stops with such a reply
abbrev pub Yields : {T : Type 0} → (T → Type 0) → ReplySpec → Result T EarlyEnd → Type 0
Yields IsValue IsSo (Ok x) = IsValue x
Yields IsValue IsSo (Err stop) = EndsWith IsSo stop

-- the reply satisfies `IsSo`, whether or not the command stopped early
abbrev pub RepliesWith : ReplySpec → Result Reply EarlyEnd → Type 0
RepliesWith IsSo result = Yields (λ r. IsSo r.status r.output.items) IsSo result

-- the reply of a command, whether or not it stopped early
abbrev pub settled : Result Reply EarlyEnd → Result Reply OutOfMemory
settled (Ok r) = Ok r
settled (Err (Replied r)) = Ok r
settled (Err NoMemory) = Err (record {})

-- the count of faults is unchanged, unless the reply reports a fault
abbrev pub KeepsFaultCount : {T : Type 0} → ℕ → ℕ → Result T EarlyEnd → Type 0
KeepsFaultCount before now result = Yields (λ x. now ≡ before) (λ status output. (status ≡ 4) ⊎ (now ≡ before)) result

-- the question of a file, and the problem that a text poses
abbrev pub IsQuestionOf : FileParts → ProblemParts → Type 0
IsQuestionOf f q = (a : AbstractParts) × (abstract_of f ≡ Ok a) × (q ≡ a.problem)

abbrev pub IsPosedBy : List ℕ → Result ProblemParts EarlyEnd → Type 0
IsPosedBy text result = Yields (Poses text) (IsRefusal (HasNoProblem text)) result
