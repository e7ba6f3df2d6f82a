-- What a call from C leaves with its caller.
use Rattle.std.specs.Prelude.{◌≡◌, ◌⊎◌, ◌≤◌, ◌<◌, ◌++◌, ℕ, List, Result, Ok, Err, length, drop}
use Rattle.kat_model.specs.declared.tree.NoMemory.{NoMemory}
use Rattle.kat_report.specs.InputLines.{words_line}
use Rattle.tool_inputs.specs.declared.reply.Reply.{Reply}
use Rattle.tool_inputs.specs.Steps.{ReplySpec}

-- the bytes of the caller's memory before the call and after it, the length that was written, and the status
pub record CallEnd : Type 0 where
  pub before : List ℕ
  pub after : List ℕ
  pub needed : ℕ
  pub status : ℕ

abbrev pub call_end : List ℕ → List ℕ → ℕ → ℕ → CallEnd
call_end before after needed status = record { before = before; after = after; needed = needed; status = status }

-- the memory begins with the output, and its rest is unchanged
abbrev pub Fits : ℕ → List ℕ → CallEnd → Type 0
Fits status output e = (length output ≤ length e.before) × (e.status ≡ status) × (e.after ≡ output ++ drop (length output) e.before)

-- the output is longer than the memory, which is unchanged
abbrev pub IsTooLong : List ℕ → CallEnd → Type 0
IsTooLong output e = (length e.before < length output) × (e.status ≡ 9) × (e.after ≡ e.before)

-- The length of the output is written. The output itself is written, and the status is that of the reply, if it fits.
-- Otherwise the status is 9.
abbrev pub Gives : ℕ → List ℕ → CallEnd → Type 0
Gives status output e = (e.needed ≡ length output) × (Fits status output e ⊎ IsTooLong output e)

abbrev pub IsOutOfMemory : CallEnd → Type 0
IsOutOfMemory e = (e.needed ≡ 0) × (e.status ≡ 6) × (e.after ≡ e.before)

-- the end of a call with this reply
abbrev pub Given : Result Reply NoMemory → CallEnd → Type 0
Given (Ok r) e = Gives r.status r.output.items e
Given (Err stop) e = IsOutOfMemory e

-- the end of a call with a reply that satisfies `IsSo`, unless memory ran out
abbrev pub GivesReply : ReplySpec → CallEnd → Type 0
GivesReply IsSo e = IsOutOfMemory e ⊎ ((status : ℕ) × (output : List ℕ) × IsSo status output × Gives status output e)

-- the reply to a word that is not UTF-8
abbrev pub RefusesWords : ReplySpec
RefusesWords status output = (status ≡ 7) × (output ≡ words_line)
