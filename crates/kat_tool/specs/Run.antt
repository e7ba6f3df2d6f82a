-- The statement on the top call.
use Rattle.std.specs.Prelude.{◌≡◌, ◌≢◌, ◌⊎◌, ℕ, List, Option, None, Some}
use Rattle.std.specs.Io.KnownBytes.{Appends, Keeps}
use Rattle.kat_io.specs.Outside.{FaultCounted, AppendsPrefix}
use Rattle.kat_model.specs.Members.{Has}
use Rattle.tool_commands.specs.Commands.{Command, command_of, files_of}
use Rattle.tool_inputs.specs.Steps.{ShelfUse, HasFailedOn}
use Rattle.kat_tool.specs.Replies.{MayNotFit, Replies}
use Rattle.kat_report.specs.InputLines.{words_line}

-- what a call saw of the sink: its count of faults before and after the call, and the bytes it had taken before and
-- after, if known
pub record SinkUse : Type 0 where
  pub before : ℕ
  pub now : ℕ
  pub had : Option (List ℕ)
  pub has : Option (List ℕ)

abbrev pub sink_use : ℕ → ℕ → Option (List ℕ) → Option (List ℕ) → SinkUse
sink_use before now had has = record { before = before; now = now; had = had; has = has }

-- a call of `run`: its words, what it saw of the shelf and of the sink, and its status
pub record Call : Type 0 where
  pub words : List (List ℕ)
  pub shelf : ShelfUse
  pub sink : SinkUse
  pub status : ℕ

-- the shelf failed on a file of the words' command
abbrev pub HasFailed : ShelfUse → List (List ℕ) → ℕ → List ℕ → Type 0
HasFailed s words status output =
    (command : Command) × (command_of words ≡ Some command) × ((file : List ℕ) × Has (files_of command) file × HasFailedOn s file status output)

-- the words have a command that may not fit its file
abbrev pub IsUnfit : ShelfUse → List (List ℕ) → Type 0
IsUnfit s words = (command : Command) × (command_of words ≡ Some command) × MayNotFit s command

-- A reply to words: the reply to their command, as `RepliesTo` defines it, with the facts about the statuses 4 and 7
-- and the count of faults.
pub record IsReply (s : ShelfUse) (words : List (List ℕ)) (status : ℕ) (output : List ℕ) : Type 0 where
  pub replies : Replies s words status output
  pub failed : status ≡ 4 → HasFailed s words status output
  pub no_command : command_of words ≡ None → status ≡ 7
  pub refused_words : status ≡ 7 → (command_of words ≡ None) ⊎ IsUnfit s words
  pub refused_words_line : status ≡ 7 → output ≡ words_line
  pub counts : status ≢ 4 → s.now ≡ s.before

-- With any status but 5 and 6, a reply was sent in full, and the sink did not fail. With 5, the sink failed in this
-- call and took a proper prefix of a reply. With 6, memory ran out, and nothing was sent.
pub record IsRun (c : Call) : Type 0 where
  pub answered : c.status ≢ 5 → c.status ≢ 6 → (output : List ℕ) × IsReply c.shelf c.words c.status output × Appends c.sink.had c.sink.has output × (c.sink.now ≡ c.sink.before)
  pub unsent : c.status ≡ 5 → FaultCounted c.sink.before c.sink.now × ((status : ℕ) × (output : List ℕ) × IsReply c.shelf c.words status output × AppendsPrefix c.sink.had c.sink.has output)
  pub no_memory : c.status ≡ 6 → Keeps c.sink.had c.sink.has × (c.sink.now ≡ c.sink.before)
