-- What is spelled is read.
use Rattle.std.proofs.Common.{◌≡◌, ℕ, ◌+◌, ◌<◌, ◌^◌, ◌==◌, ◌&&◌, inl, inr, ⊎_elim, List, [], ◌∷◌, ◌++◌, length, Bool, true, false, Result, Ok, refl, sym, ap, ◌∙◌, subst, append_assoc, append-nil, arith, length-append}
use Rattle.std.specs.Fmt.{decimal}
use Rattle.std.specs.List.{flat_map, list_any}
use Rattle.std.specs.Str.{bytes_eq}
use Rattle.std.proofs.lemmas.Bool.Decides.{nat_tests}
use Rattle.kat_model.specs.Members.{Has}
use Rattle.kat_model.proofs.Lists.{has_any, has_left, has_right}
use Rattle.line_format.specs.Lines.{parts_of, with_feed}
use Rattle.line_format.specs.NumberedLines.{ended_text}
use Rattle.line_format.proofs.Splits.{LacksByte, split_at, split_some}
use Rattle.line_format.proofs.NumeralValues.{decimal_numeral}
use Rattle.line_format.proofs.Words.{decimals_words, number_narrow, word_lacks}
use Rattle.line_format.proofs.LineSteps.{differs}
use Rattle.piece_evidence.specs.Sections.{SectionParts, header_line, end_line, same_line, piece_line, section_text, agree_text, IsCertificateText, IsSectionText, AreSections, IsPieceEvidence}
use Rattle.piece_evidence.specs.Faults.{Place, SectionsRead, at_start, in_text, in_section, after_text, reading, with_section, with_line, and_then, read_from, sections_of}
use Rattle.piece_evidence.specs.declared.fault.SectionFault.{SectionFault}

-- from here on the bytes spell sections that are, with those read, these; from whatever line
abbrev pub ReadsTo : SectionsRead → List ℕ → List SectionParts → Type 0
ReadsTo r bytes ss = (n : ℕ) → read_from r n (parts_of bytes) ≡ Ok ss

line_read : (r more : SectionsRead) (line rest : List ℕ) (ss : List SectionParts) → LacksByte 10 line → ((n : ℕ) → with_line r n line ≡ Ok more) → ReadsTo more rest ss → ReadsTo r (line ++ 10 ∷ rest) ss
line_read r more line rest ss lacks step next n =
    let some = split_some (λ b. b == 10) rest in
    ap (read_from r n) (split_at 10 line rest lacks ∙ ap (λ ps. line ∷ ps) some.2)
    ∙ ap (λ (x : Result SectionsRead SectionFault). and_then x (λ m. read_from m (n + 1) (some.0 ∷ some.1))) (step n)
    ∙ ap (read_from more (n + 1)) (sym some.2)
    ∙ next (n + 1)

-- a byte that does not occur
pub lacks_absent : (mark : ℕ) (line : List ℕ) → (Has line mark → ⊥) → LacksByte mark line
lacks_absent mark line absent = by_test (list_any (λ b. b == mark) line) refl
  where
    by_test : (b : Bool) → list_any (λ c. c == mark) line ≡ b → LacksByte mark line
    by_test true is =
        let found = has_any (λ c. c == mark) line is in
        absurd (absent (subst (Has line) (same found.0 found.2) found.1))
      where
        same : (c : ℕ) → (c == mark) ≡ true → c ≡ mark
        same c e = grind (arith, nat_tests)
    by_test false is = is

module _ (done ss : List SectionParts) where
  piece_read : (k : ℕ) (rest : List ℕ) → k < 2 ^ 64 → ReadsTo (reading done (in_section k [])) rest ss → ReadsTo (reading done in_text) (piece_line k ++ 10 ∷ rest) ss
  piece_read k rest narrow next = line_read (reading done in_text) (reading done (in_section k [])) (piece_line k) rest ss lacks step next
    where
      lacks : LacksByte 10 (piece_line k)
      lacks = word_lacks 10 (decimal k) (omega arith) (decimals_words (k ∷ []) (λ l h. ⊎_elim (λ e. subst (λ m. m < 2 ^ 64) e narrow) absurd h)).0

      step : (n : ℕ) → with_line (reading done in_text) n (piece_line k) ≡ Ok (reading done (in_section k []))
      step n = rw ((decimal_numeral k narrow).0, (decimal_numeral k narrow).1, number_narrow k narrow) refl

  module _ (k : ℕ) (rest : List ℕ) where
    same_read : ReadsTo (with_section done k (with_feed same_line)) rest ss → ReadsTo (reading done (in_section k [])) (with_feed same_line ++ rest) ss
    same_read next = line_read (reading done (in_section k [])) (with_section done k (with_feed same_line)) same_line rest ss refl (λ n. refl) next

    -- lines of a certificate, of which this was read
    lines_read : (lines : List (List ℕ)) (text : List ℕ)
        → ((line : List ℕ) → Has lines line → Has line 10 → ⊥)
        → ((line : List ℕ) → Has lines line → bytes_eq line end_line ≡ false)
        → ((line : List ℕ) (more : List (List ℕ)) → lines ≡ line ∷ more → ((length text == 0) && bytes_eq line same_line) ≡ false)
        → ReadsTo (with_section done k (text ++ ended_text lines)) rest ss
        → ReadsTo (reading done (in_section k text)) (ended_text lines ++ rest) ss
    lines_read [] text no_feed no_end not_same next =
        line_read (reading done (in_section k text)) (with_section done k (text ++ with_feed end_line)) end_line rest ss refl (λ n. refl) next
    lines_read (line ∷ lines) text no_feed no_end not_same next =
        let read : List ℕ = text ++ with_feed line in
        let left : List ℕ = ended_text lines in
        let cut : (with_feed line ++ left) ++ rest ≡ line ++ 10 ∷ (left ++ rest) = append_assoc (with_feed line) left rest ∙ append_assoc line (10 ∷ []) (left ++ rest) in
        let all : text ++ (with_feed line ++ left) ≡ read ++ left = sym (append_assoc text (with_feed line) left) in
        let step : (n : ℕ) → with_line (reading done (in_section k text)) n line ≡ Ok (reading done (in_section k read)) = λ n. rw (no_end line (inl refl), not_same line lines refl) refl in
        let later : ReadsTo (reading done (in_section k read)) (left ++ rest) ss =
        lines_read lines read (λ l h. no_feed l (inr h)) (λ l h. no_end l (inr h)) (λ l more e. started l) (subst (λ t. ReadsTo (with_section done k t) rest ss) all next) in
        subst (λ t. ReadsTo (reading done (in_section k text)) t ss) (sym cut)
        (line_read (reading done (in_section k text)) (reading done (in_section k read)) line (left ++ rest) ss (lacks_absent 10 line (no_feed line (inl refl))) step later)
      where
        not_zero : (n : ℕ) → (n + 1 == 0) ≡ false
        not_zero n = grind (arith, nat_tests)

        some_last : (xs : List ℕ) → (length (xs ++ 10 ∷ []) == 0) ≡ false
        some_last xs = ap (λ n. n == 0) (length-append xs (10 ∷ [])) ∙ not_zero (length xs)

        started : (l : List ℕ) → ((length (text ++ with_feed line) == 0) && bytes_eq l same_line) ≡ false
        started l = rw (ap (λ t. length t == 0) (sym (append_assoc text line (10 ∷ []))) ∙ some_last (text ++ line)) refl

    text_read : (text : List ℕ) → IsSectionText text → ReadsTo (with_section done k text) rest ss → ReadsTo (reading done (in_section k [])) (text ++ rest) ss
    text_read text is next = ⊎_elim same certificate is
      where
        same : text ≡ with_feed same_line → ReadsTo (reading done (in_section k [])) (text ++ rest) ss
        same e = subst (λ t. ReadsTo (reading done (in_section k [])) (t ++ rest) ss) (sym e) (same_read (subst (λ t. ReadsTo (with_section done k t) rest ss) e next))

        certificate : IsCertificateText text → ReadsTo (reading done (in_section k [])) (text ++ rest) ss
        certificate c =
            subst (λ t. ReadsTo (reading done (in_section k [])) (t ++ rest) ss) (sym c.spelled)
            (lines_read c.lines [] c.no_feed (λ l h. differs l end_line (c.no_end l h)) (λ l more e. differs l same_line (λ s. c.not_same more (e ∙ ap (λ m. m ∷ more) s)))
            (subst (λ t. ReadsTo (with_section done k t) rest ss) c.spelled next))

  section_read : (s : SectionParts) (rest : List ℕ) → s.piece < 2 ^ 64 → IsSectionText s.text → ReadsTo (reading (done ++ s ∷ []) in_text) rest ss → ReadsTo (reading done in_text) (section_text s ++ rest) ss
  section_read s rest narrow is next =
      let cut : section_text s ++ rest ≡ piece_line s.piece ++ 10 ∷ (s.text ++ rest) = append_assoc (with_feed (piece_line s.piece)) s.text rest ∙ append_assoc (piece_line s.piece) (10 ∷ []) (s.text ++ rest) in
      subst (λ t. ReadsTo (reading done in_text) t ss) (sym cut)
      (piece_read s.piece (s.text ++ rest) narrow (text_read s.piece rest s.text is next))

sections_read : (now done ss : List SectionParts) (rest : List ℕ) → AreSections now → ReadsTo (reading (done ++ now) in_text) rest ss → ReadsTo (reading done in_text) (flat_map section_text now ++ rest) ss
sections_read [] done ss rest are next = subst (λ l. ReadsTo (reading l in_text) rest ss) (append-nil done) next
sections_read (s ∷ now) done ss rest are next =
    subst (λ t. ReadsTo (reading done in_text) t ss) (sym (append_assoc (section_text s) (flat_map section_text now) rest))
    (section_read done ss s (flat_map section_text now ++ rest) (are s (inl refl)).0 (are s (inl refl)).1
    (sections_read now (done ++ s ∷ []) ss rest (λ t h. are t (inr h))
    (subst (λ l. ReadsTo (reading l in_text) rest ss) (sym (append_assoc done (s ∷ []) now)) next)))

-- the places at which a text may begin
abbrev IsBetween : Place → Type 0
IsBetween place = (done : List SectionParts) (n : ℕ) → with_line (reading done place) n header_line ≡ Ok (reading done in_text)

group_read : (place : Place) → IsBetween place → (now done ss : List SectionParts) (rest : List ℕ) → AreSections now → ReadsTo (reading (done ++ now) after_text) rest ss → ReadsTo (reading done place) (agree_text now ++ rest) ss
group_read place between now done ss rest are next =
    let body : List ℕ = flat_map section_text now in
    let cut : agree_text now ++ rest ≡ header_line ++ 10 ∷ (body ++ (end_line ++ 10 ∷ rest)) =
    ap (λ l. header_line ++ 10 ∷ l) (append_assoc body (with_feed end_line) rest) in
    let last : ReadsTo (reading (done ++ now) in_text) (end_line ++ 10 ∷ rest) ss =
    line_read (reading (done ++ now) in_text) (reading (done ++ now) after_text) end_line rest ss refl (λ n. refl) next in
    subst (λ t. ReadsTo (reading done place) t ss) (sym cut)
    (line_read (reading done place) (reading done in_text) header_line (body ++ (end_line ++ 10 ∷ rest)) ss refl (λ n. between done n)
    (sections_read now done ss (end_line ++ 10 ∷ rest) are last))

abbrev pub joined : List (List SectionParts) → List SectionParts
joined groups = flat_map (λ group. group) groups

groups_read : (groups : List (List SectionParts)) (done : List SectionParts) → AreSections (joined groups) → ReadsTo (reading done after_text) (flat_map agree_text groups) (done ++ joined groups)
groups_read [] done are = λ n. ap (λ (l : List SectionParts). Ok l) (sym (append-nil done))
groups_read (now ∷ groups) done are =
    subst (λ l. ReadsTo (reading done after_text) (agree_text now ++ flat_map agree_text groups) l) (append_assoc done now (joined groups))
    (group_read after_text (λ l n. refl) now done ((done ++ now) ++ joined groups) (flat_map agree_text groups) (λ s h. are s (has_left now (joined groups) s h))
    (groups_read groups (done ++ now) (λ s h. are s (has_right now (joined groups) s h))))

whole_read : (groups : List (List SectionParts)) → 0 < length groups → AreSections (joined groups) → ReadsTo (reading [] at_start) (flat_map agree_text groups) (joined groups)
whole_read [] some are = absurd (omega (arith, some))
whole_read (now ∷ groups) some are =
    group_read at_start (λ l n. refl) now [] (now ++ joined groups) (flat_map agree_text groups) (λ s h. are s (has_left now (joined groups) s h))
    (groups_read groups now (λ s h. are s (has_right now (joined groups) s h)))

pub evidence_read : (bytes : List ℕ) (ss : List SectionParts) → IsPieceEvidence bytes ss → sections_of bytes ≡ Ok ss
evidence_read bytes ss is =
    ap sections_of is.spelled
    ∙ whole_read is.groups is.some (subst AreSections (sym is.all) is.sections) 1
    ∙ ap (λ (l : List SectionParts). Ok l) is.all
