-- Evidence for pieces: sections of a number and a text each, and how they are written.
use Rattle.std.specs.Prelude.{◌≡◌, ◌≢◌, ◌⊎◌, ℕ, ◌<◌, ◌^◌, List, ◌∷◌, ◌++◌, length, codes}
use Rattle.std.specs.Fmt.{decimal}
use Rattle.std.specs.List.{flat_map}
use Rattle.kat_model.specs.Members.{Has}
use Rattle.line_format.specs.Lines.{with_feed}
use Rattle.line_format.specs.NumberedLines.{ended_text}
use Rattle.piece_evidence.specs.declared.section.Section.{Section}

-- the section of a piece
pub record SectionParts : Type 0 where
  pub piece : ℕ
  pub text : List ℕ

abbrev pub section_of : ℕ → List ℕ → SectionParts
section_of piece text = record { piece = piece; text = text }

-- a section without where it lies in memory
abbrev pub section_parts : Section → SectionParts
section_parts s = section_of s.piece s.text.now

abbrev pub header_line : List ℕ
header_line = codes "kat 1 agree"

abbrev pub end_line : List ℕ
end_line = codes "end"

-- the text of the section of a piece that needs no certificate
abbrev pub same_line : List ℕ
same_line = codes "same text"

abbrev pub piece_line : ℕ → List ℕ
piece_line k = codes "piece " ++ decimal k

abbrev pub section_text : SectionParts → List ℕ
section_text s = with_feed (piece_line s.piece) ++ s.text

-- the text of some sections
abbrev pub agree_text : List SectionParts → List ℕ
agree_text ss = with_feed header_line ++ (flat_map section_text ss ++ with_feed end_line)

-- lines, none of which is `end`, followed by the line `end`; the first is not `same text`
pub record IsCertificateText (text : List ℕ) : Type 0 where
  pub lines : List (List ℕ)
  pub no_feed : (line : List ℕ) → Has lines line → Has line 10 → ⊥
  pub no_end : (line : List ℕ) → Has lines line → line ≢ end_line
  pub not_same : (more : List (List ℕ)) → lines ≢ same_line ∷ more
  pub spelled : text ≡ ended_text lines

abbrev pub IsSectionText : List ℕ → Type 0
IsSectionText text = (text ≡ with_feed same_line) ⊎ IsCertificateText text

-- each section has a number below 2^64 and the text of a section
abbrev pub AreSections : List SectionParts → Type 0
AreSections ss = (s : SectionParts) → Has ss s → (s.piece < 2 ^ 64) × IsSectionText s.text

-- the bytes are the texts of these sections: one text or several, one after the other
pub record IsPieceEvidence (bytes : List ℕ) (ss : List SectionParts) : Type 0 where
  pub groups : List (List SectionParts)
  pub some : 0 < length groups
  pub all : flat_map (λ group. group) groups ≡ ss
  pub spelled : bytes ≡ flat_map agree_text groups
  pub sections : AreSections ss
