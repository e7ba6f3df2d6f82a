-- The laws of the text of notes. Each law is the contract of a function that does nothing.
use Rattle.std.specs.Prelude.{◌≡◌, ◌≢◌, ◌↔◌, ◌⊎◌, ◌+◌, ℕ, false, ◌==◌, List, ◌∷◌, ◌++◌, length, codes, Some}
use Rattle.std.specs.List.{list_any}
use Rattle.line_format.specs.Lines.{line_of, text_of_lines}
use Rattle.outline_rules.specs.declared.line.NoteLine.{NoteLine}
use Rattle.outline_rules.specs.declared.fault.NotesFault.{NotesFault}
use Rattle.outline_rules.specs.declared.fault.NotesFault.TheVariants.{Header, Truncated, Trailing}
use Rattle.outline_rules.specs.NoteLists.{NotesParts}
use Rattle.outline_rules.specs.Texts.{line_words, heading, lines_before_end, text_of, IsNarrow, AreNarrowNotes}
use Rattle.outline_rules.specs.Forms.{read_line}
use Rattle.outline_rules.specs.Faults.{line_fault_after, notes_fault}

-- different notes have different texts
abbrev pub TextsDiffer : Type 0
TextsDiffer = (ms ns : NotesParts) → AreNarrowNotes ms → AreNarrowNotes ns → text_of ms ≡ text_of ns → ms ≡ ns

-- some notes have this text
abbrev pub IsText : List ℕ → Type 0
IsText bytes = (ns : NotesParts) × AreNarrowNotes ns × (bytes ≡ text_of ns)

abbrev pub HasFault : List ℕ → Type 0
HasFault bytes = (fault : NotesFault) × (notes_fault bytes ≡ Some fault)

-- bytes are either the text of some notes or have a first fault
abbrev pub IsTextOrFaulty : Type 0
IsTextOrFaulty = (bytes : List ℕ) → (IsText bytes × (HasFault bytes → ⊥)) ⊎ ((IsText bytes → ⊥) × HasFault bytes)

-- a line, without its line feed
abbrev pub IsLine : List ℕ → Type 0
IsLine line = list_any (λ b. b == 10) line ≡ false

-- the lines of these notes before `end`, then this line, then more bytes
abbrev pub text_with : NotesParts → List ℕ → List ℕ → List ℕ
text_with ns line more = text_of_lines (lines_before_end ns) ++ (line ++ 10 ∷ more)

-- the number of the line after the lines before `end`
abbrev pub next_line : NotesParts → ℕ
next_line ns = length (lines_before_end ns) + 1

-- A line is read as `l` if and only if it is the spelling of `l`.
abbrev pub EachHasOneSpelling : Type 0
EachHasOneSpelling = (line : List ℕ) (l : NoteLine) → IsNarrow l → (read_line line ≡ Some l) ↔ (line ≡ line_of (line_words l))

-- An error after correct lines is the first fault of the text.
pub record FaultsAreFirst : Type 0 where
  pub header : (line more : List ℕ) → IsLine line → line ≢ heading → notes_fault (line ++ 10 ∷ more) ≡ Some Header
  pub line : (ns : NotesParts) (line more : List ℕ) (fault : NotesFault) → AreNarrowNotes ns → IsLine line → line ≢ codes "end" → line_fault_after ns (next_line ns) (read_line line) ≡ Some fault → notes_fault (text_with ns line more) ≡ Some fault
  pub no_line : (rest : List ℕ) → IsLine rest → notes_fault rest ≡ Some Truncated
  pub truncated : (ns : NotesParts) (rest : List ℕ) → AreNarrowNotes ns → IsLine rest → notes_fault (text_of_lines (lines_before_end ns) ++ rest) ≡ Some Truncated
  pub trailing : (ns : NotesParts) (b : ℕ) (more : List ℕ) → AreNarrowNotes ns → notes_fault (text_of ns ++ b ∷ more) ≡ Some (Trailing (next_line ns + 1))
