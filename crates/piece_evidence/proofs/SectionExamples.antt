-- Worked examples of evidence for pieces: the sections that texts give, and the first faults of other texts.
use Rattle.std.proofs.Common.{◌≡◌, [], ◌∷◌, Ok, Err, codes, refl}
use Rattle.piece_evidence.specs.Sections.{section_of}
use Rattle.piece_evidence.specs.Faults.{sections_of}
use Rattle.piece_evidence.specs.declared.fault.SectionFault.TheVariants.{Header, Line, NumberTooWide, Truncated}

-- ---- texts

two_sections : sections_of (codes "kat 1 agree\npiece 1\nkat 2 equal\nE act 0\nP 0 | 0\nend\npiece 2\nsame text\nend\n") ≡ Ok (section_of 1 (codes "kat 2 equal\nE act 0\nP 0 | 0\nend\n") ∷ section_of 2 (codes "same text\n") ∷ [])
two_sections = refl

-- several texts, one of which has no section; the order of pieces is free
several_texts : sections_of (codes "kat 1 agree\npiece 3\nsame text\nend\nkat 1 agree\nend\nkat 1 agree\npiece 0\nend\nend\n") ≡ Ok (section_of 3 (codes "same text\n") ∷ section_of 0 (codes "end\n") ∷ [])
several_texts = refl

-- the lines of a certificate are not read
any_lines : sections_of (codes "kat 1 agree\npiece 1\npiece 2\nsame text\n\nend\nend\n") ≡ Ok (section_of 1 (codes "piece 2\nsame text\n\nend\n") ∷ [])
any_lines = refl

-- ---- faults

nothing : sections_of [] ≡ Err Truncated
nothing = refl

no_feed : sections_of (codes "kat 1 agree") ≡ Err Truncated
no_feed = refl

other_header : sections_of (codes "kat 2 agree\nend\n") ≡ Err Header
other_header = refl

no_piece : sections_of (codes "kat 1 agree\nsame text\nend\n") ≡ Err (Line 2)
no_piece = refl

no_word : sections_of (codes "kat 1 agree\npiece\n") ≡ Err (Line 2)
no_word = refl

no_numeral : sections_of (codes "kat 1 agree\npiece 01\nsame text\nend\n") ≡ Err (Line 2)
no_numeral = refl

too_wide_piece : sections_of (codes "kat 1 agree\npiece 18446744073709551616\nsame text\nend\n") ≡ Err (NumberTooWide 2)
too_wide_piece = refl

no_end : sections_of (codes "kat 1 agree\npiece 1\nsame text\n") ≡ Err Truncated
no_end = refl

no_end_of_certificate : sections_of (codes "kat 1 agree\npiece 1\nkat 2 equal\nsame text\nend\n") ≡ Err Truncated
no_end_of_certificate = refl

ends_twice : sections_of (codes "kat 1 agree\nend\nend\n") ≡ Err (Line 3)
ends_twice = refl

no_whole_header : sections_of (codes "kat 1 agree\nend\nkat 1 agree") ≡ Err Truncated
no_whole_header = refl
