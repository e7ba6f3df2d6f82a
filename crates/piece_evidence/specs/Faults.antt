-- The sections that bytes spell, or the first fault of the bytes. Lines are counted from 1.
use Rattle.std.specs.Prelude.{ℕ, ◌+◌, Bool, ◌==◌, ◌&&◌, ◌||◌, if◌then◌else◌, List, [], ◌∷◌, ◌++◌, length, take, drop, codes, Option, Some, None, Result, Ok, Err}
use Rattle.std.specs.Str.{bytes_eq}
use Rattle.line_format.specs.Lines.{parts_of, with_feed}
use Rattle.line_format.specs.Numerals.{is_numeral, value_of, too_wide}
use Rattle.piece_evidence.specs.Sections.{SectionParts, section_of, header_line, end_line, same_line}
use Rattle.piece_evidence.specs.declared.fault.SectionFault.{SectionFault}
use Rattle.piece_evidence.specs.declared.fault.SectionFault.TheVariants.{Header, Line, NumberTooWide, Truncated}

-- the place of a line: before the first line, after the header or a section of a text, in the section of a piece of
-- whose text this was read, or after the line `end` of a text
pub data Place : Type 0 where
  at_start : Place
  in_text : Place
  in_section : (piece : ℕ) (text : List ℕ) → Place
  after_text : Place

-- the sections that were read, and the place of the next line
pub record SectionsRead : Type 0 where
  pub sections : List SectionParts
  pub place : Place

abbrev pub reading : List SectionParts → Place → SectionsRead
reading ss place = record { sections = ss; place = place }

-- a line that must be the header
abbrev pub with_header : List SectionParts → SectionFault → List ℕ → Result SectionsRead SectionFault
with_header ss fault line = if bytes_eq line header_line then Ok (reading ss in_text) else Err fault

-- what follows `piece ` in a line
abbrev pub piece_word : List ℕ → Option (List ℕ)
piece_word line = if bytes_eq (take 6 line) (codes "piece ") then Some (drop 6 line) else None

abbrev pub with_number : List SectionParts → ℕ → ℕ → Result SectionsRead SectionFault
with_number ss n piece = if too_wide piece then Err (NumberTooWide n) else Ok (reading ss (in_section piece []))

-- the first line of a section, in which this follows `piece `
abbrev pub with_piece : List SectionParts → ℕ → Option (List ℕ) → Result SectionsRead SectionFault
with_piece ss n None = Err (Line n)
with_piece ss n (Some word) = if is_numeral word then with_number ss n (value_of word) else Err (Line n)

-- a line after the header or a section
abbrev pub with_text_line : List SectionParts → ℕ → List ℕ → Result SectionsRead SectionFault
with_text_line ss n line = if bytes_eq line end_line then Ok (reading ss after_text) else with_piece ss n (piece_word line)

-- whether a line is the last one of the text of a section, of which this number of bytes precedes it
abbrev pub is_last : ℕ → List ℕ → Bool
is_last read line = bytes_eq line end_line || ((read == 0) && bytes_eq line same_line)

abbrev pub with_section : List SectionParts → ℕ → List ℕ → SectionsRead
with_section ss piece text = reading (ss ++ section_of piece text ∷ []) in_text

-- a line in a section
abbrev pub with_section_line : List SectionParts → ℕ → List ℕ → List ℕ → SectionsRead
with_section_line ss piece text line =
    if is_last (length text) line then with_section ss piece (text ++ with_feed line)
    else reading ss (in_section piece (text ++ with_feed line))

-- line n, at this place
abbrev pub with_line_at : List SectionParts → Place → ℕ → List ℕ → Result SectionsRead SectionFault
with_line_at ss at_start n line = with_header ss Header line
with_line_at ss in_text n line = with_text_line ss n line
with_line_at ss (in_section piece text) n line = Ok (with_section_line ss piece text line)
with_line_at ss after_text n line = with_header ss (Line n) line

abbrev pub with_line : SectionsRead → ℕ → List ℕ → Result SectionsRead SectionFault
with_line r n line = with_line_at r.sections r.place n line

-- the answer at the end of the bytes, where this follows the last line feed
abbrev pub at_end : List SectionParts → Place → List ℕ → Result (List SectionParts) SectionFault
at_end ss after_text [] = Ok ss
at_end ss place last = Err Truncated

abbrev pub and_then : {X Y : Type 0} → Result X SectionFault → (X → Result Y SectionFault) → Result Y SectionFault
and_then (Ok x) more = more x
and_then (Err fault) more = Err fault

-- The answer for the parts from line n on. Each part but the last is a complete line.
abbrev pub read_from : SectionsRead → ℕ → List (List ℕ) → Result (List SectionParts) SectionFault
read_from r n [] = Err Truncated
read_from r n (last ∷ []) = at_end r.sections r.place last
read_from r n (line ∷ part ∷ parts) = and_then (with_line r n line) (λ more. read_from more (n + 1) (part ∷ parts))

-- the sections of the bytes, or the first fault
abbrev pub sections_of : List ℕ → Result (List SectionParts) SectionFault
sections_of bytes = read_from (reading [] at_start) 1 (parts_of bytes)
