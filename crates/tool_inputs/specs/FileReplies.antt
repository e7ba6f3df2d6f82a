-- Replies to the files of a shelf, defined by the replies to bytes. A statement about a reply to bytes is made once,
-- and holds for the reply to files with these bytes.
use Rattle.std.specs.Prelude.{◌≡◌, ◌⊎◌, ℕ, List, length, Option}
use Rattle.kat_io.specs.Gets.{IsPast}
use Rattle.tool_inputs.specs.Contents.{MayContain}
use Rattle.tool_inputs.specs.Steps.{ShelfUse, ReplySpec, HasFailedOn}

-- the reply to a file: the shelf failed on it in this call, or the reply is that to bytes that the file may contain
abbrev pub OfFile : ShelfUse → List ℕ → (List ℕ → ReplySpec) → ReplySpec
OfFile s file R status output = HasFailedOn s file status output ⊎ ((bytes : List ℕ) × MayContain (s.content file) bytes × R bytes status output)

-- The reply to a text that the first of two files may contain. If the text is not accepted, the reply is that to the text and
-- any bytes, so the second file is not needed; otherwise the reply is that to the text and the second file.
abbrev pub WithSecond : ShelfUse → List ℕ → (List ℕ → Type 0) → (List ℕ → List ℕ → ReplySpec) → List ℕ → ReplySpec
WithSecond s other Accepts Both text status output =
    ((Accepts text → ⊥) × ((bytes : List ℕ) → Both text bytes status output)) ⊎ (Accepts text × OfFile s other (Both text) status output)

-- the reply to two files, of which the second is read only after the text of the first is accepted
abbrev pub OfTwoFiles : ShelfUse → List ℕ → List ℕ → (List ℕ → Type 0) → (List ℕ → List ℕ → ReplySpec) → ReplySpec
OfTwoFiles s file other Accepts Both = OfFile s file (WithSecond s other Accepts Both)

-- the bytes are more than the limit, and this line refuses them
abbrev pub IsTooLong : Option ℕ → List ℕ → List ℕ → ReplySpec
IsTooLong limit line bytes status output = IsPast (length bytes) limit × (status ≡ 2) × (output ≡ line)
