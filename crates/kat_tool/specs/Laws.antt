-- The laws of the top call. Each is the contract of a function of the crate that does nothing.
use Rattle.std.specs.Prelude.{◌≡◌, ◌⊎◌, ℕ, List, Some}
use Rattle.kat_model.specs.Stores.{Store}
use Rattle.kat_io.specs.KnownContent.{Unknown}
use Rattle.kat_io.specs.Outside.{FaultCounted}
use Rattle.while_lang.specs.Files.{FileParts}
use Rattle.while_lang.specs.Concrete.{IsStoreOf}
use Rattle.tool_inputs.specs.Steps.{ShelfUse}
use Rattle.tool_commands.specs.Commands.{decide, outline, command_of}
use Rattle.tool_commands.specs.StoreWords.{store_of}
use Rattle.kat_tool.specs.Replies.{Replies}
use Rattle.kat_tool.specs.Agreement.{IsAgreed, AreAccepting}

-- if the shelf did not fail and the content of each file is known, two replies to the same words have one status
abbrev pub CausesExclude : Type 0
CausesExclude =
    (s : ShelfUse) (words : List (List ℕ)) (status other : ℕ) (output printed : List ℕ)
    → (FaultCounted s.before s.now → ⊥) → ((file : List ℕ) → s.content file ≡ Unknown → ⊥) → Replies s words status output → Replies s words other printed → status ≡ other

-- the store that a word gives is a store of the file
abbrev pub WordsGiveStores : Type 0
WordsGiveStores = (f : FileParts) (word : List ℕ) (s : Store) → store_of f word ≡ Some s → IsStoreOf f s

-- `check` agrees with `decide`: its reply to the output of `decide` with status 0 or 1, against the same text, has the
-- same status
abbrev pub CheckAgrees : Type 0
CheckAgrees =
    (s : ShelfUse) (words : List (List ℕ)) (file : List ℕ) (status : ℕ) (output : List ℕ)
    → command_of words ≡ Some (decide file) → Replies s words status output → (status ≡ 0) ⊎ (status ≡ 1) → IsAgreed (s.content file) output status

-- `outline` accepts the notes that it printed, against the same text
abbrev pub NotesFollow : Type 0
NotesFollow =
    (s : ShelfUse) (words : List (List ℕ)) (file : List ℕ) (status : ℕ) (output : List ℕ)
    → command_of words ≡ Some (outline file) → Replies s words status output → status ≡ 0 → AreAccepting (s.content file) output
