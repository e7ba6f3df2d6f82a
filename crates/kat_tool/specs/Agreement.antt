-- One command accepts the output of another: `check` agrees with `decide`, and `outline` accepts printed notes.
use Rattle.std.specs.Prelude.{◌≡◌, ℕ, List, Some}
use Rattle.kat_io.specs.KnownContent.{KnownContent, Known}
use Rattle.kat_io.specs.Outside.{FaultCounted}
use Rattle.tool_commands.specs.Commands.{Command, check, outline_check, command_of}
use Rattle.tool_inputs.specs.Steps.{ShelfUse}
use Rattle.kat_tool.specs.Replies.{Replies}

-- every reply of this command to these bytes against the same text, from a shelf that does not fail, has this status
abbrev pub IsReplyOf : (List ℕ → List ℕ → Command) → KnownContent → List ℕ → ℕ → Type 0
IsReplyOf poses given bytes status =
    (words : List (List ℕ)) (file other text : List ℕ) (later : ShelfUse) (reply : ℕ) (printed : List ℕ)
    → given ≡ Known text
    → command_of words ≡ Some (poses file other)
    → later.content file ≡ Known text
    → later.content other ≡ Known bytes
    → (FaultCounted later.before later.now → ⊥)
    → Replies later words reply printed
    → reply ≡ status

-- every reply of `check` to this evidence has this status
abbrev pub IsAgreed : KnownContent → List ℕ → ℕ → Type 0
IsAgreed given evidence status = IsReplyOf check given evidence status

-- every reply of `outline` to these notes accepts them
abbrev pub AreAccepting : KnownContent → List ℕ → Type 0
AreAccepting given notes = IsReplyOf outline_check given notes 0
