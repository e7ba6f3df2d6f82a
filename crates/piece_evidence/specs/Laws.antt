-- The laws of evidence for pieces.
use Rattle.std.specs.Prelude.{◌≡◌, ◌↔◌, ℕ, List, ◌++◌, Ok}
use Rattle.piece_evidence.specs.Sections.{SectionParts, agree_text, AreSections, IsPieceEvidence}
use Rattle.piece_evidence.specs.Faults.{sections_of}

abbrev pub SectionsAreRead : Type 0
SectionsAreRead = (bytes : List ℕ) (ss : List SectionParts) → IsPieceEvidence bytes ss ↔ (sections_of bytes ≡ Ok ss)

abbrev pub TextsAreEvidence : Type 0
TextsAreEvidence = (ss : List SectionParts) → AreSections ss → IsPieceEvidence (agree_text ss) ss

abbrev pub EvidenceIsJoined : Type 0
EvidenceIsJoined =
    (a b : List ℕ) (ss ts : List SectionParts) → IsPieceEvidence a ss → IsPieceEvidence b ts → IsPieceEvidence (a ++ b) (ss ++ ts)
