-- What is read is spelled.
use Rattle.std.proofs.Common.{◌≡◌, ◌≢◌, ℕ, ◌+◌, ◌<◌, ◌^◌, ◌==◌, ◌&&◌, inl, inr, ⊎_elim, List, [], ◌∷◌, ◌++◌, length, take, drop, Bool, true, false, cond, Some, None, Result, Ok, Err, refl, sym, ap, ◌∙◌, subst, codes, append_assoc, append-nil, arith, take-append-drop, length-append}
use Rattle.std.specs.List.{flat_map, list_any, onto_first, join_with_byte}
use Rattle.std.specs.Str.{bytes_eq}
use Rattle.std.proofs.lemmas.Bool.{or_cases, or_parts, and_parts, both_ways}
use Rattle.std.proofs.lemmas.Bool.Decides.{nat_tests}
use Rattle.std.proofs.lemmas.Grind.{flat_map-append}
use Rattle.std.proofs.lemmas.Slice.Eq.{bytes_eq-Decides}
use Rattle.std.proofs.lemmas.List.{nil_from_length}
use Rattle.std.proofs.lemmas.List.Splits.{join_with_byte-slice_split, slice_split-cons_yes, slice_split-cons_no}
use Rattle.kat_model.specs.Members.{Has}
use Rattle.kat_model.proofs.Lists.{any_has, has_append, has_pushed}
use Rattle.line_format.specs.Lines.{parts_of, with_feed, text_of_lines}
use Rattle.line_format.specs.Numerals.{is_numeral, value_of, too_wide}
use Rattle.line_format.proofs.Splits.{LacksByte, same_byte}
use Rattle.line_format.proofs.TextParts.{LackFeeds}
use Rattle.line_format.proofs.NumeralValues.{numeral_decimal}
use Rattle.line_format.proofs.Words.{narrow_number}
use Rattle.line_format.proofs.LineSteps.{named}
use Rattle.piece_evidence.specs.Sections.{SectionParts, section_of, header_line, end_line, same_line, piece_line, section_text, agree_text, IsSectionText, AreSections, IsPieceEvidence}
use Rattle.piece_evidence.specs.Faults.{Place, SectionsRead, at_start, in_text, in_section, after_text, reading, piece_word, with_number, with_piece, with_section, is_last, with_line, with_line_at, at_end, and_then, read_from, sections_of}
use Rattle.piece_evidence.specs.declared.fault.SectionFault.{SectionFault}
use Rattle.piece_evidence.specs.declared.fault.SectionFault.TheVariants.{Header, Line, NumberTooWide}
use Rattle.piece_evidence.proofs.SpelledRead.{joined}

-- ---- parts have no line feed

first_lacks : (b : ℕ) (parts : List (List ℕ)) → (b == 10) ≡ false → LackFeeds parts → LackFeeds (onto_first b parts)
first_lacks b [] e lack = (rw e refl, tt)
first_lacks b (part ∷ parts) e lack = (rw (e, lack.0) refl, lack.1)

pub parts_lack : (bytes : List ℕ) → LackFeeds (parts_of bytes)
parts_lack [] = (refl, tt)
parts_lack (b ∷ bytes) = by_test (b == 10) refl (parts_lack bytes)
  where
    by_test : (t : Bool) → (b == 10) ≡ t → LackFeeds (parts_of bytes) → LackFeeds (parts_of (b ∷ bytes))
    by_test true e lack = subst LackFeeds (sym (slice_split-cons_yes (λ c. c == 10) b bytes e)) (refl, lack)
    by_test false e lack = subst LackFeeds (sym (slice_split-cons_no (λ c. c == 10) b bytes e)) (first_lacks b (parts_of bytes) e lack)

lacks_no : (line : List ℕ) → LacksByte 10 line → Has line 10 → ⊥
lacks_no line lacks h = both_ways (list_any (λ b. b == 10) line) lacks (any_has (λ b. b == 10) line 10 h (same_byte 10))

-- ---- what was read so far

-- texts, and a text without its end
pub record IsTextSoFar (ss : List SectionParts) (before : List ℕ) : Type 0 where
  pub groups : List (List SectionParts)
  pub now : List SectionParts
  pub all : joined groups ++ now ≡ ss
  pub bytes : before ≡ flat_map agree_text groups ++ (with_feed header_line ++ flat_map section_text now)

-- lines of a certificate that does not end
pub record IsCertificateSoFar (text : List ℕ) : Type 0 where
  pub lines : List (List ℕ)
  pub no_feed : (line : List ℕ) → Has lines line → Has line 10 → ⊥
  pub no_end : (line : List ℕ) → Has lines line → line ≢ end_line
  pub not_same : (more : List (List ℕ)) → lines ≢ same_line ∷ more
  pub spelled : text ≡ text_of_lines lines

-- the same with a section without its end
pub record IsSectionSoFar (ss : List SectionParts) (piece : ℕ) (text before : List ℕ) : Type 0 where
  pub begin : List ℕ
  pub begun : IsTextSoFar ss begin
  pub narrow : piece < 2 ^ 64
  pub certificate : IsCertificateSoFar text
  pub bytes : before ≡ begin ++ (with_feed (piece_line piece) ++ text)

-- whole texts
pub record AreTexts (ss : List SectionParts) (before : List ℕ) : Type 0 where
  pub groups : List (List SectionParts)
  pub some : 0 < length groups
  pub all : joined groups ≡ ss
  pub bytes : before ≡ flat_map agree_text groups

abbrev pub IsSoFar : Place → List SectionParts → List ℕ → Type 0
IsSoFar at_start ss before = (ss ≡ []) × (before ≡ [])
IsSoFar in_text ss before = IsTextSoFar ss before
IsSoFar (in_section piece text) ss before = IsSectionSoFar ss piece text before
IsSoFar after_text ss before = AreTexts ss before

abbrev pub HasRead : SectionsRead → List ℕ → Type 0
HasRead r before = AreSections r.sections × IsSoFar r.place r.sections before

-- ---- a line adds to what was read

module _ (ss : List SectionParts) (before line : List ℕ) (are : AreSections ss) (more : SectionsRead) where
  abbrev Added : Type 0
  Added = HasRead more (before ++ with_feed line)

  added_by : (place : Place) (now : List SectionParts) → reading now place ≡ more → AreSections now → IsSoFar place now (before ++ with_feed line) → Added
  added_by place now e all so_far = subst (λ r. HasRead r (before ++ with_feed line)) e (all, so_far)

  header_added : (fault : SectionFault) (b : Bool) → bytes_eq line header_line ≡ b → (line ≡ header_line → IsTextSoFar ss (before ++ with_feed line)) → cond b (Ok (reading ss in_text)) (Err fault) ≡ Ok more → Added
  header_added fault true is so_far h = added_by in_text ss (cc) are (so_far (named line header_line is))
  header_added fault false is so_far h = cc

  first_header : ss ≡ [] → before ≡ [] → line ≡ header_line → IsTextSoFar ss (before ++ with_feed line)
  first_header none start e = record {
    groups = [];
    now = [];
    all = sym none;
    bytes = ap (λ l. l ++ with_feed line) start ∙ ap with_feed e;
  }

  later_header : AreTexts ss before → line ≡ header_line → IsTextSoFar ss (before ++ with_feed line)
  later_header texts e = record {
    groups = texts.groups;
    now = [];
    all = append-nil (joined texts.groups) ∙ texts.all;
    bytes = ap (λ l. l ++ with_feed line) texts.bytes ∙ ap (λ l. flat_map agree_text texts.groups ++ with_feed l) e;
  }

  text_ended : IsTextSoFar ss before → line ≡ end_line → AreTexts ss (before ++ with_feed line)
  text_ended so_far e =
      let groups = so_far.groups in
      let now = so_far.now in
      let texts : List ℕ = flat_map agree_text groups in
      let body : List ℕ = flat_map section_text now in
      record {
        groups = groups ++ now ∷ [];
        some = omega (arith, length-append groups (now ∷ []));
        all = flat_map-append (λ group. group) groups (now ∷ []) ∙ ap (λ l. joined groups ++ l) (append-nil now) ∙ so_far.all;
        bytes =
            ap (λ l. l ++ with_feed line) so_far.bytes
            ∙ append_assoc texts (with_feed header_line ++ body) (with_feed line)
            ∙ ap (λ l. texts ++ l) (append_assoc (with_feed header_line) body (with_feed line))
            ∙ ap (λ l. texts ++ (with_feed header_line ++ (body ++ with_feed l))) e
            ∙ ap (λ l. texts ++ l) (sym (append-nil (agree_text now)))
            ∙ sym (flat_map-append agree_text groups (now ∷ []));
      }

  -- a section begins
  section_begun : (piece : ℕ) → IsTextSoFar ss before → line ≡ piece_line piece → piece < 2 ^ 64 → IsSectionSoFar ss piece [] (before ++ with_feed line)
  section_begun piece so_far e narrow = record {
    begin = before;
    begun = so_far;
    narrow = narrow;
    certificate = record {
      lines = [];
      no_feed = λ l h. absurd h;
      no_end = λ l h. absurd h;
      not_same = λ l f. cc;
      spelled = refl;
    };
    bytes = ap (λ l. before ++ with_feed l) e ∙ ap (λ l. before ++ l) (sym (append-nil (with_feed (piece_line piece))));
  }

  number_added : (n : ℕ) (word : List ℕ) → IsTextSoFar ss before → line ≡ codes "piece " ++ word → is_numeral word ≡ true → (b : Bool) → too_wide (value_of word) ≡ b → cond b (Err (NumberTooWide n)) (Ok (reading ss (in_section (value_of word) []))) ≡ Ok more → Added
  number_added n word so_far e numeral true wide h = cc
  number_added n word so_far e numeral false narrow h =
      let small = narrow_number (value_of word) narrow in
      let spelled : line ≡ piece_line (value_of word) = e ∙ ap (λ w. codes "piece " ++ w) (sym (numeral_decimal word numeral small)) in
      added_by (in_section (value_of word) []) ss (cc) are (section_begun (value_of word) so_far spelled small)

  numeral_added : (n : ℕ) (word : List ℕ) → IsTextSoFar ss before → line ≡ codes "piece " ++ word → (b : Bool) → is_numeral word ≡ b → cond b (with_number ss n (value_of word)) (Err (Line n)) ≡ Ok more → Added
  numeral_added n word so_far e true numeral h = number_added n word so_far e numeral (too_wide (value_of word)) refl h
  numeral_added n word so_far e false numeral h = cc

  piece_added : (n : ℕ) → IsTextSoFar ss before → (b : Bool) → bytes_eq (take 6 line) (codes "piece ") ≡ b → with_piece ss n (cond b (Some (drop 6 line)) None) ≡ Ok more → Added
  piece_added n so_far true is h =
      let whole : line ≡ codes "piece " ++ drop 6 line = sym (take-append-drop 6 line) ∙ ap (λ l. l ++ drop 6 line) (named (take 6 line) (codes "piece ") is) in
      numeral_added n (drop 6 line) so_far whole (is_numeral (drop 6 line)) refl h
  piece_added n so_far false is h = cc

  text_line_added : (n : ℕ) → IsTextSoFar ss before → (b : Bool) → bytes_eq line end_line ≡ b → cond b (Ok (reading ss after_text)) (with_piece ss n (piece_word line)) ≡ Ok more → Added
  text_line_added n so_far true is h = added_by after_text ss (cc) are (text_ended so_far (named line end_line is))
  text_line_added n so_far false is h = piece_added n so_far (bytes_eq (take 6 line) (codes "piece ")) refl h

  module _ (piece : ℕ) (text : List ℕ) (so_far : IsSectionSoFar ss piece text before) where
    cert : IsCertificateSoFar text
    cert = so_far.certificate

    read : List ℕ
    read = text ++ with_feed line

    with_text : before ++ with_feed line ≡ so_far.begin ++ (with_feed (piece_line piece) ++ (text ++ with_feed line))
    with_text =
        ap (λ l. l ++ with_feed line) so_far.bytes
        ∙ append_assoc so_far.begin (with_feed (piece_line piece) ++ text) (with_feed line)
        ∙ ap (λ l. so_far.begin ++ l) (append_assoc (with_feed (piece_line piece)) text (with_feed line))

    -- the line is the last one of the section
    section_ended : IsSectionText (text ++ with_feed line) → reading (ss ++ section_of piece (text ++ with_feed line) ∷ []) in_text ≡ more → Added
    section_ended is e =
        let s : SectionParts = section_of piece (text ++ with_feed line) in
        let begun = so_far.begun in
        let texts : List ℕ = flat_map agree_text begun.groups in
        let body : List ℕ = flat_map section_text begun.now in
        let each : AreSections (ss ++ s ∷ []) = λ t h. ⊎_elim (are t) (λ p. subst (λ (u : SectionParts). (u.piece < 2 ^ 64) × IsSectionText u.text) p (so_far.narrow, is)) (has_pushed ss s t h) in
        added_by in_text (ss ++ s ∷ []) e each (record {
          groups = begun.groups;
          now = begun.now ++ s ∷ [];
          all = sym (append_assoc (joined begun.groups) begun.now (s ∷ [])) ∙ ap (λ l. l ++ s ∷ []) begun.all;
          bytes =
              with_text
              ∙ ap (λ l. l ++ section_text s) begun.bytes
              ∙ append_assoc texts (with_feed header_line ++ body) (section_text s)
              ∙ ap (λ l. texts ++ l) (append_assoc (with_feed header_line) body (section_text s))
              ∙ ap (λ l. texts ++ (with_feed header_line ++ (body ++ l))) (sym (append-nil (section_text s)))
              ∙ ap (λ l. texts ++ (with_feed header_line ++ l)) (sym (flat_map-append section_text begun.now (s ∷ [])));
        })

    ended_by_end : line ≡ end_line → IsSectionText (text ++ with_feed line)
    ended_by_end e = inr (record {
      lines = cert.lines;
      no_feed = cert.no_feed;
      no_end = cert.no_end;
      not_same = cert.not_same;
      spelled = ap (λ l. text ++ with_feed l) e ∙ ap (λ l. l ++ with_feed end_line) cert.spelled ∙ sym (flat_map-append with_feed cert.lines (end_line ∷ []));
    })

    is_zero : (n : ℕ) → (n == 0) ≡ true → n ≡ 0
    is_zero n e = grind (arith, nat_tests)

    ended_by_same : ((length text == 0) && bytes_eq line same_line) ≡ true → IsSectionText (text ++ with_feed line)
    ended_by_same e =
        let both = and_parts (length text == 0) (bytes_eq line same_line) e in
        inl (ap (λ l. l ++ with_feed line) (nil_from_length text (is_zero (length text) both.0)) ∙ ap with_feed (named line same_line both.1))

    -- or the section continues after it
    section_continued : LacksByte 10 line → bytes_eq line end_line ≡ false → ((length text == 0) && bytes_eq line same_line) ≡ false → reading ss (in_section piece (text ++ with_feed line)) ≡ more → Added
    section_continued lacks no_end not_same e = added_by (in_section piece (text ++ with_feed line)) ss e are (record {
      begin = so_far.begin;
      begun = so_far.begun;
      narrow = so_far.narrow;
      certificate = record {
        lines = cert.lines ++ line ∷ [];
        no_feed = λ l h. ⊎_elim (cert.no_feed l) (λ p. subst (λ m. Has m 10 → ⊥) p (lacks_no line lacks)) (has_pushed cert.lines line l h);
        no_end = λ l h. ⊎_elim (cert.no_end l) (λ p. subst (λ m. m ≢ end_line) p apart) (has_pushed cert.lines line l h);
        not_same = first_apart cert.lines cert.spelled cert.not_same;
        spelled = ap (λ l. l ++ with_feed line) cert.spelled ∙ ap (λ l. text_of_lines cert.lines ++ l) (sym (append-nil (with_feed line))) ∙ sym (flat_map-append with_feed cert.lines (line ∷ []));
      };
      bytes = with_text;
    })
      where
        equal_true : (a b : List ℕ) → a ≡ b → bytes_eq a b ≡ true
        equal_true a b e = (bytes_eq-Decides a b).1 e

        apart : line ≢ end_line
        apart e = both_ways (bytes_eq line end_line) no_end (equal_true line end_line e)

        first_apart : (lines : List (List ℕ)) → text ≡ text_of_lines lines → ((more : List (List ℕ)) → lines ≢ same_line ∷ more) → (more : List (List ℕ)) → lines ++ line ∷ [] ≢ same_line ∷ more
        first_apart [] none not_first more f =
            let is : line ≡ same_line = cc in
            both_ways ((length text == 0) && bytes_eq line same_line) not_same (rw (ap (λ t. length t == 0) none, equal_true line same_line is) refl)
        first_apart (l ∷ lines) text not_first more f =
            let is : l ≡ same_line = cc in
            not_first lines (ap (λ m. m ∷ lines) is)

    section_line_added : LacksByte 10 line → (b : Bool) → is_last (length text) line ≡ b → cond b (with_section ss piece (text ++ with_feed line)) (reading ss (in_section piece (text ++ with_feed line))) ≡ more → Added
    section_line_added lacks true is e =
        section_ended (⊎_elim (λ p. ended_by_end (named line end_line p)) ended_by_same (or_cases (bytes_eq line end_line) ((length text == 0) && bytes_eq line same_line) is)) e
    section_line_added lacks false is e =
        let parts = or_parts (bytes_eq line end_line) ((length text == 0) && bytes_eq line same_line) is in
        section_continued lacks parts.0 parts.1 e

line_added : (ss : List SectionParts) (place : Place) (n : ℕ) (before line : List ℕ) (more : SectionsRead) → LacksByte 10 line → AreSections ss → IsSoFar place ss before → with_line_at ss place n line ≡ Ok more → HasRead more (before ++ with_feed line)
line_added ss at_start n before line more lacks are so_far h = header_added ss before line are more Header (bytes_eq line header_line) refl (first_header ss before line are more so_far.0 so_far.1) h
line_added ss in_text n before line more lacks are so_far h = text_line_added ss before line are more n so_far (bytes_eq line end_line) refl h
line_added ss (in_section piece text) n before line more lacks are so_far h = section_line_added ss before line are more piece text so_far lacks (is_last (length text) line) refl (cc)
line_added ss after_text n before line more lacks are so_far h = header_added ss before line are more (Line n) (bytes_eq line header_line) refl (later_header ss before line are more so_far) h

-- ---- all lines

ended_given : (ss : List SectionParts) (place : Place) (before last : List ℕ) (all : List SectionParts) → AreSections ss → IsSoFar place ss before → at_end ss place last ≡ Ok all → IsPieceEvidence (before ++ last) all
ended_given ss at_start before last all are so_far h = cc
ended_given ss in_text before last all are so_far h = cc
ended_given ss (in_section piece text) before last all are so_far h = cc
ended_given ss after_text before (b ∷ last) all are so_far h = cc
ended_given ss after_text before [] all are so_far h =
    let same : ss ≡ all = cc in
    record {
      groups = so_far.groups;
      some = so_far.some;
      all = so_far.all ∙ same;
      spelled = append-nil before ∙ so_far.bytes;
      sections = subst AreSections same are;
    }

lines_given : (parts : List (List ℕ)) (r : SectionsRead) (n : ℕ) (before : List ℕ) (all : List SectionParts) → LackFeeds parts → HasRead r before → read_from r n parts ≡ Ok all → IsPieceEvidence (before ++ join_with_byte 10 parts) all
lines_given [] r n before all lack has h = cc
lines_given (last ∷ []) r n before all lack has h = ended_given r.sections r.place before last all has.0 has.1 h
lines_given (line ∷ part ∷ parts) r n before all lack has h = by_line (with_line r n line) refl h (λ more read e. lines_given (part ∷ parts) more (n + 1) (before ++ with_feed line) all lack.1 read e)
  where
    by_line : (x : Result SectionsRead SectionFault) → with_line r n line ≡ x → and_then x (λ more. read_from more (n + 1) (part ∷ parts)) ≡ Ok all
        → ((more : SectionsRead) → HasRead more (before ++ with_feed line) → read_from more (n + 1) (part ∷ parts) ≡ Ok all → IsPieceEvidence ((before ++ with_feed line) ++ join_with_byte 10 (part ∷ parts)) all)
        → IsPieceEvidence (before ++ join_with_byte 10 (line ∷ part ∷ parts)) all
    by_line (Err fault) is h next = cc
    by_line (Ok more) is h next =
        let rest : List ℕ = join_with_byte 10 (part ∷ parts) in
        let whole : (before ++ with_feed line) ++ rest ≡ before ++ (line ++ 10 ∷ rest) = append_assoc before (with_feed line) rest ∙ ap (λ l. before ++ l) (append_assoc line (10 ∷ []) rest) in
        subst (λ bytes. IsPieceEvidence bytes all) whole
        (next more (line_added r.sections r.place n before line more lack.0 has.0 has.1 is) h)

pub read_evidence : (bytes : List ℕ) (ss : List SectionParts) → sections_of bytes ≡ Ok ss → IsPieceEvidence bytes ss
read_evidence bytes ss h =
    subst (λ b. IsPieceEvidence b ss) (join_with_byte-slice_split 10 bytes)
    (lines_given (parts_of bytes) (reading [] at_start) 1 [] ss (parts_lack bytes) ((λ s h. absurd h), (refl, refl)) h)

-- ---- texts are evidence, and evidence is joined

pub written_evidence : (ss : List SectionParts) → AreSections ss → IsPieceEvidence (agree_text ss) ss
written_evidence ss are = record {
  groups = ss ∷ [];
  some = omega arith;
  all = append-nil ss;
  spelled = sym (append-nil (agree_text ss));
  sections = are;
}

pub joined_evidence : (a b : List ℕ) (ss ts : List SectionParts) → IsPieceEvidence a ss → IsPieceEvidence b ts → IsPieceEvidence (a ++ b) (ss ++ ts)
joined_evidence a b ss ts first second = record {
  groups = first.groups ++ second.groups;
  some = omega (arith, first.some, length-append first.groups second.groups);
  all = flat_map-append (λ group. group) first.groups second.groups ∙ ap (λ l. l ++ joined second.groups) first.all ∙ ap (λ l. ss ++ l) second.all;
  spelled = ap (λ l. l ++ b) first.spelled ∙ ap (λ l. flat_map agree_text first.groups ++ l) second.spelled ∙ sym (flat_map-append agree_text first.groups second.groups);
  sections = λ s h. ⊎_elim (first.sections s) (second.sections s) (has_append ss ts s h);
}
