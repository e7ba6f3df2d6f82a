-- Answers of the reader. Memory may run out.
use Rattle.std.specs.Prelude.{◌≡◌, ℕ, List, Some, Ok, Err}
use Rattle.outline_rules.specs.declared.fault.NotesFault.{NotesFault}
use Rattle.outline_rules.specs.declared.fault.NotesFault.TheVariants.{NoMemory}
use Rattle.outline_rules.specs.NoteLists.{NotesParts}
use Rattle.outline_rules.specs.Faults.{Answer, notes_fault}

-- memory ran out, or this is the first fault of the text
abbrev pub IsFault : List ℕ → NotesFault → Type 0
IsFault bytes NoMemory = Unit {0}
IsFault bytes fault = notes_fault bytes ≡ Some fault

-- the answer is these notes, unless memory ran out
abbrev pub Gives : NotesParts → Answer → Type 0
Gives ns (Ok given) = given ≡ ns
Gives ns (Err NoMemory) = Unit {0}
Gives ns (Err fault) = ⊥
