-- Results of the parts of the reader, for private contracts and proofs. Memory may run out.
use Rattle.std.specs.Prelude.{◌≡◌, ℕ, true, false, Option, Some, None, Result, Ok, Err}
use Rattle.kat_model.specs.Members.{SameMembers}
use Rattle.outline_rules.specs.declared.line.NoteLine.{NoteLine}
use Rattle.outline_rules.specs.declared.line.LineFault.{LineFault}
use Rattle.outline_rules.specs.declared.line.LineFault.TheVariants.{NoMemory as NoRoom, Form, Wide}
use Rattle.outline_rules.specs.declared.draft.Draft.{Draft}
use Rattle.outline_rules.specs.declared.fault.NotesFault.{NotesFault}
use Rattle.outline_rules.specs.declared.fault.NotesFault.TheVariants.{NoMemory}
use Rattle.outline_rules.specs.NoteLists.{NotesParts, notes_of, AreNotes}
use Rattle.line_format.specs.NumberedLines.{Answers, AddsTo}
use Rattle.outline_rules.specs.Faults.{Answer, is_wide, section_of, is_section_allowed, names_earlier, note_format}

-- P, unless the fault is that memory ran out
abbrev pub unless_memory : NotesFault → Type 0 → Type 0
unless_memory NoMemory P = Unit {0}
unless_memory fault P = P

-- a fact gives itself unless memory ran out, and so does a fact that follows from one
pub is_given : (fault : NotesFault) (given : Answer) → given ≡ Err fault → unless_memory fault (given ≡ Err fault)
is_given NoMemory given e = tt
is_given fault given e = e

pub is_passed_on : (fault : NotesFault) (o : Option NotesFault) (given : Answer) → unless_memory fault (o ≡ Some fault) → (o ≡ Some fault → given ≡ Err fault) → unless_memory fault (given ≡ Err fault)
is_passed_on NoMemory o given e f = tt
is_passed_on fault o given e f = f e

-- the result is this answer, unless memory ran out
abbrev pub Reads : Answer → Answer → Type 0
Reads given result = Answers unless_memory given result

-- the result of reading a line whose content, if any, is `o`
abbrev pub ReadsLine : Option NoteLine → Result NoteLine LineFault → Type 0
ReadsLine o (Ok l) = (o ≡ Some l) × (is_wide l ≡ false)
ReadsLine o (Err NoRoom) = Unit {0}
ReadsLine o (Err Form) = o ≡ None
ReadsLine o (Err (Wide section)) = (l : NoteLine) × (o ≡ Some l) × (is_wide l ≡ true) × (section_of l ≡ section)

-- the notes with the lines of a draft
abbrev pub draft_parts : Draft → NotesParts
draft_parts d = notes_of d.nodes.items d.notes.items

-- the lines of a draft keep the rules, and `known` has its nodes
pub record IsDraft (d : Draft) : Type 0 where
  pub notes : AreNotes (draft_parts d)
  pub nodes : SameMembers d.known.keys d.nodes.items

-- the line passes the first three tests
pub record MayBeAdded (d : Draft) (l : NoteLine) : Type 0 where
  pub allowed : is_section_allowed (draft_parts d) (section_of l) ≡ true
  pub narrow : is_wide l ≡ false
  pub earlier : names_earlier (draft_parts d) l ≡ true

-- the line is added to the draft, or line n has a fault
abbrev pub AddsLine : Draft → ℕ → Option NoteLine → Draft → Result (Unit {0}) NotesFault → Type 0
AddsLine old n o new result = AddsTo note_format unless_memory IsDraft draft_parts old n o new result
