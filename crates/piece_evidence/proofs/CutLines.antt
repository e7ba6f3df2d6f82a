-- A complete line at the beginning of bytes, and of what is left of them.
use Rattle.std.proofs.Common.{◌≡◌, ℕ, ◌+◌, ◌==◌, List, [], ◌∷◌, ◌++◌, length, take, drop, sym, ap, ◌∙◌, append_assoc, arith, Bool, true, false, cond, length-append, length-take-le, take-append-drop}
use Rattle.std.specs.List.{join_with_byte}
use Rattle.std.proofs.lemmas.List.{take_at, drop_at}
use Rattle.std.proofs.lemmas.List.Splits.{join_with_byte-slice_split}
use Rattle.line_format.specs.Lines.{parts_of, with_feed}
use Rattle.line_format.proofs.Splits.{split_some}
use Rattle.piece_evidence.specs.Sections.{SectionParts}
use Rattle.piece_evidence.specs.Faults.{SectionsRead, in_section, reading, is_last, with_section, with_section_line}
use Rattle.piece_evidence.specs.Working.Drafts.{IsRest}

-- bytes are their first line, its line feed, and what follows it
pub cut_text : (bytes line after : List ℕ) → parts_of bytes ≡ line ∷ parts_of after → bytes ≡ line ++ 10 ∷ after
cut_text bytes line after cut =
    let some = split_some (λ b. b == 10) after in
    let back : join_with_byte 10 (some.0 ∷ some.1) ≡ after = sym (ap (join_with_byte 10) some.2) ∙ join_with_byte-slice_split 10 after in
    sym (join_with_byte-slice_split 10 bytes)
    ∙ ap (join_with_byte 10) (cut ∙ ap (λ ps. line ∷ ps) some.2)
    ∙ ap (λ l. line ++ 10 ∷ l) back

module _ (begin line after : List ℕ) (read : ℕ) (h : IsRest begin read (line ++ 10 ∷ after)) where
  whole : begin ≡ (take read begin ++ with_feed line) ++ after
  whole =
      sym (take-append-drop read begin)
      ∙ ap (λ l. take read begin ++ l) (h.rest ∙ sym (append_assoc line (10 ∷ []) after))
      ∙ sym (append_assoc (take read begin) (with_feed line) after)

  long : length (take read begin ++ with_feed line) ≡ read + (length line + 1)
  long = omega (arith, length-append (take read begin) (with_feed line), length-append line (10 ∷ []), length-take-le read begin h.within)

  -- what was read, and the line
  pub read_with_line : take (read + (length line + 1)) begin ≡ take read begin ++ with_feed line
  read_with_line = ap (take (read + (length line + 1))) whole ∙ take_at (take read begin ++ with_feed line) after (read + (length line + 1)) long

  pub rest_after_line : IsRest begin (read + (length line + 1)) after
  rest_after_line = record {
    within = omega (arith, long, ap length whole, length-append (take read begin ++ with_feed line) after);
    rest = ap (drop (read + (length line + 1))) whole ∙ drop_at (take read begin ++ with_feed line) after (read + (length line + 1)) long;
  }

  module _ (ss : List SectionParts) (piece : ℕ) where
    by_last : (b : Bool) → is_last read line ≡ b → with_section_line ss piece (take read begin) line ≡ cond b (with_section ss piece (take (read + (length line + 1)) begin)) (reading ss (in_section piece (take (read + (length line + 1)) begin)))
    by_last b is =
        let either : Bool → List ℕ → SectionsRead = λ t text. cond t (with_section ss piece text) (reading ss (in_section piece text)) in
        ap (λ n. either (is_last n line) (take read begin ++ with_feed line)) (length-take-le read begin h.within)
        ∙ ap (λ t. either t (take read begin ++ with_feed line)) is
        ∙ ap (either b) (sym read_with_line)

    -- the section ends with the line
    pub section_ends : is_last read line ≡ true → with_section_line ss piece (take read begin) line ≡ with_section ss piece (take (read + (length line + 1)) begin)
    section_ends is = by_last true is

    -- or continues after it
    pub section_continues : is_last read line ≡ false → with_section_line ss piece (take read begin) line ≡ reading ss (in_section piece (take (read + (length line + 1)) begin))
    section_continues is = by_last false is
