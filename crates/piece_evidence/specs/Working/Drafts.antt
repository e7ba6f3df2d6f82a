-- What a draft has read.
use Rattle.std.specs.Prelude.{◌≡◌, ℕ, ◌≤◌, List, ◌∷◌, ◌++◌, map, length, take, drop, Result, Ok, Option, Some, None}
use Rattle.std.specs.Borrow.{Bor}
use Rattle.piece_evidence.specs.Sections.{SectionParts, section_parts}
use Rattle.piece_evidence.specs.Faults.{Place, SectionsRead, at_start, in_text, in_section, after_text, reading, piece_word, with_header, with_piece, with_text_line, with_section, with_section_line, with_line, at_end}
use Rattle.piece_evidence.specs.Readings.{Gives}
use Rattle.piece_evidence.specs.declared.fault.SectionFault.{SectionFault}
use Rattle.piece_evidence.specs.declared.draft.Draft.{Draft}
use Rattle.piece_evidence.specs.declared.draft.Stage.{Stage}
use Rattle.piece_evidence.specs.declared.draft.Stage.TheVariants.{Start, Text, Section, End}

-- the sections of a draft
abbrev pub parts_in : Draft → List SectionParts
parts_in d = map section_parts d.sections.items

abbrev pub place_at : Stage → ℕ → List ℕ → Place
place_at Start piece text = at_start
place_at Text piece text = in_text
place_at Section piece text = in_section piece text
place_at End piece text = after_text

-- what was read of the text of a section
abbrev pub text_in : Draft → List ℕ
text_in d = take d.length d.begin.now

abbrev pub place_in : Draft → Place
place_in d = place_at d.stage d.piece (text_in d)

-- what a draft has read
abbrev pub draft_read : Draft → SectionsRead
draft_read d = reading (parts_in d) (place_in d)

-- the draft has read this, or the fault is this one
abbrev pub Reads : Result SectionsRead SectionFault → Draft → Result (Unit {0}) SectionFault → Type 0
Reads answer new result = Gives answer result (λ x. draft_read new)

-- a header was added, or the line has this fault
abbrev pub AddsHeader : Draft → SectionFault → List ℕ → Draft → Result (Unit {0}) SectionFault → Type 0
AddsHeader old fault line new result = Reads (with_header (parts_in old) fault line) new result

-- the first line of a section was added, or line n after the header or a section
abbrev pub AddsPiece : Draft → ℕ → List ℕ → Draft → Result (Unit {0}) SectionFault → Type 0
AddsPiece old n line new result = Reads (with_piece (parts_in old) n (piece_word line)) new result

abbrev pub AddsTextLine : Draft → ℕ → List ℕ → Draft → Result (Unit {0}) SectionFault → Type 0
AddsTextLine old n line new result = Reads (with_text_line (parts_in old) n line) new result

-- the section was added whose text was read, or a line to this text
abbrev pub AddsSection : Draft → Draft → Result (Unit {0}) SectionFault → Type 0
AddsSection old new result = Reads (Ok (with_section (parts_in old) old.piece (text_in old))) new result

abbrev pub AddsSectionLine : Draft → List ℕ → Draft → Result (Unit {0}) SectionFault → Type 0
AddsSectionLine old line new result = Reads (Ok (with_section_line (parts_in old) old.piece (text_in old) line)) new result

-- line n was added
abbrev pub AddsLine : Draft → ℕ → List ℕ → Draft → Result (Unit {0}) SectionFault → Type 0
AddsLine old n line new result = Reads (with_line (draft_read old) n line) new result

-- the answer where this follows the last line feed
abbrev pub answer_at_end : Draft → List ℕ → Result (List SectionParts) SectionFault
answer_at_end d last = at_end (parts_in d) (place_in d) last

-- after `read` bytes, these are left
pub record IsRest (begin : List ℕ) (read : ℕ) (left : List ℕ) : Type 0 where
  pub within : read ≤ length begin
  pub rest : drop read begin ≡ left

abbrev pub IsRestAt : Stage → List ℕ → ℕ → List ℕ → Type 0
IsRestAt Section begin read rest = IsRest begin read rest
IsRestAt stage begin read rest = Unit {0}

-- in a section, the rest follows what was read
abbrev pub IsAt : Draft → List ℕ → Type 0
IsAt d rest = IsRestAt d.stage d.begin.now d.length rest

-- the draft is in a section, of which this line follows
pub record IsInSection (d : Draft) (line after : List ℕ) : Type 0 where
  pub stage : d.stage ≡ Section
  pub rest : IsRest d.begin.now d.length (line ++ 10 ∷ after)

-- the word, if there is one
abbrev pub IsPieceWord : Option (List ℕ) → Option (Bor (List ℕ)) → Type 0
IsPieceWord word None = word ≡ None
IsPieceWord word (Some w) = word ≡ Some w.now
