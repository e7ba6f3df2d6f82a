-- The lines of notes keep the laws of a format of numbered lines, and the text of notes those of texts.
use Rattle.std.proofs.Common.{◌≡◌, ℕ, ◌<◌, ⊎_elim, List, [], ◌∷◌, ◌++◌, map, length, true, false, cond, eqb-true, Bool, Some, slice_get, Ok, Err, refl, sym, ap, ◌∙◌, subst, codes, append_assoc, append-nil, arith}
use mathlib.Core.Path.{ap₂}
use Rattle.std.specs.Str.{bytes_eq}
use Rattle.std.proofs.lemmas.List.{map-append, length-map, nil_from_length}
use Rattle.kat_model.specs.Members.{Has, HasNoDoubles}
use Rattle.kat_model.proofs.Lists.{has_left, has_right, has_at, no_earlier, map_has}
use Rattle.kat_model.proofs.Places.{slice_get-append_seam}
use Rattle.line_format.specs.NumberedLines.{spelling}
use Rattle.line_format.proofs.TextParts.{with_last}
use Rattle.line_format.proofs.Words.{none_wide}
use Rattle.line_format.proofs.KnownLines.{any_lacks}
use Rattle.line_format.proofs.LineSteps.{named, complete}
use Rattle.line_format.proofs.LineTests.{Passes}
use Rattle.line_format.proofs.FormatLaws.{IsLineFormat, Reaches, GrowsFrom, section_reached, nothing_reached}
use Rattle.line_format.proofs.LinesScanned.{lines_scanned, lines_lack}
use Rattle.line_format.proofs.LinesGiven.{body_given}
use Rattle.line_format.proofs.WholeTexts.{IsTextFormat}
use Rattle.outline_rules.specs.declared.notes.NoteNode.{NoteNode}
use Rattle.outline_rules.specs.declared.line.NoteLine.{NoteLine}
use Rattle.outline_rules.specs.declared.line.NoteLine.TheVariants.{Node, Note}
use Rattle.outline_rules.specs.declared.fault.NotesFault.TheVariants.{Header}
use Rattle.outline_rules.specs.NoteLists.{NotesParts, notes_of, node_parts, AreNotes}
use Rattle.outline_rules.specs.Texts.{line_numbers, heading, note_lines, lines_before_end, IsNarrow, AreNarrowNotes}
use Rattle.outline_rules.specs.Faults.{section_of, is_section_allowed, same_node, with_line, fault_names, note_format, notes_from, no_lines, all_from}
use Rattle.outline_rules.proofs.KnownNodes.{same_node_equal, node_same_itself}
use Rattle.outline_rules.proofs.Growth.{has_below, notes_grown}
use Rattle.outline_rules.proofs.Spellings.{line_read, line_given, line_lacks_feed, line_not_end}

lines_grown : (ns : NotesParts) (l : NoteLine) → is_section_allowed ns (section_of l) ≡ true → note_lines (with_line ns l) ≡ note_lines ns ++ l ∷ []
lines_grown ns (Node n) allowed =
    let none : ns.notes ≡ [] = nil_from_length ns.notes (eqb-true (length ns.notes) 0 allowed) in
    let alone : (xs : List NoteNode) → map Node xs ++ map Note ns.notes ≡ map Node xs = λ xs. ap (λ r. map Node xs ++ map Note r) none ∙ append-nil (map Node xs) in
    alone (ns.nodes ++ n ∷ []) ∙ map-append Node ns.nodes (n ∷ []) ∙ ap (λ l. l ++ Node n ∷ []) (sym (alone ns.nodes))
lines_grown ns (Note k) allowed =
    let nodes : List NoteLine = map Node ns.nodes in
    ap (λ l. nodes ++ l) (map-append Note ns.notes (k ∷ [])) ∙ sym (append_assoc nodes (map Note ns.notes) (Note k ∷ []))

pub note_laws : IsLineFormat note_format
note_laws = record { read_back = line_read; read_given = line_given; lacks_feed = line_lacks_feed; not_end = line_not_end; lines_grown = lines_grown }

-- ---- the lines of notes pass

module _ (ns : NotesParts) (are : AreNotes ns) (narrow : (l : NoteLine) → Has (note_lines ns) l → IsNarrow l) where
  node_passes : (done : List NoteNode) (n : NoteNode) (left : List NoteNode) → ns.nodes ≡ done ++ n ∷ left → Passes note_format (notes_of done []) (Node n)
  node_passes done n left e =
      let there : slice_get ns.nodes (length done) ≡ Some n = ap (λ l. slice_get l (length done)) e ∙ slice_get-append_seam done n left in
      let has : Has ns.nodes n = subst (λ l. Has l n) (sym e) (has_at done n left) in
      record {
        allowed = refl;
        narrow = none_wide (line_numbers (Node n)) (narrow (Node n) (has_left (map Node ns.nodes) (map Note ns.notes) (Node n) (map_has Node ns.nodes n has)));
        earlier = has_below (length done) (node_parts n) (are.ordered (length done) n there);
        new = any_lacks same_node same_node_equal node_same_itself done n (no_earlier done n left (subst HasNoDoubles e are.once));
        last = refl;
      }

  note_passes : (done : List ℕ) (k : ℕ) (left : List ℕ) → ns.notes ≡ done ++ k ∷ left → Passes note_format (notes_of ns.nodes done) (Note k)
  note_passes done k left e =
      let has : Has ns.notes k = subst (λ l. Has l k) (sym e) (has_at done k left) in
      record {
        allowed = refl;
        narrow = none_wide (line_numbers (Note k)) (narrow (Note k) (has_right (map Node ns.nodes) (map Note ns.notes) (Note k) (map_has Note ns.notes k has)));
        earlier = has_below (length ns.nodes) (k ∷ []) (λ j h. ⊎_elim (λ e. subst (λ i. i < length ns.nodes) e (are.notes k has)) absurd h);
        new = refl;
        last = refl;
      }

  all_reached : Reaches note_format no_lines (note_lines ns) ns
  all_reached =
      let notes : Reaches note_format (notes_of ns.nodes []) (map Note ns.notes) ns =
      subst (λ ls. Reaches note_format (notes_of ns.nodes []) ls ns) (append-nil (map Note ns.notes))
      (section_reached note_format Note (λ done. notes_of ns.nodes done) ns.notes (λ done k. refl) note_passes [] ns (nothing_reached note_format ns)) in
      section_reached note_format Node (λ done. notes_of done []) ns.nodes (λ done n. refl) node_passes (map Note ns.notes) ns notes

pub notes_grow : GrowsFrom note_format no_lines AreNotes
notes_grow = record { begins = record { ordered = λ k n e. cc; once = tt; notes = λ k h. absurd h }; empty = refl; grown = notes_grown; reached = all_reached }

-- ---- the whole text

all_given : (parts : List (List ℕ)) (ns : NotesParts) → all_from parts ≡ Ok ns → AreNarrowNotes ns × (parts ≡ with_last (lines_before_end ns ++ codes "end" ∷ []))
all_given [] ns h = cc
all_given (line ∷ []) ns h = cc
all_given (line ∷ part ∷ parts) ns h = by_heading (bytes_eq line heading) refl h
  where
    by_heading : (b : Bool) → bytes_eq line heading ≡ b → cond b (notes_from no_lines 2 (part ∷ parts)) (Err Header) ≡ Ok ns → AreNarrowNotes ns × (line ∷ part ∷ parts ≡ with_last (lines_before_end ns ++ codes "end" ∷ []))
    by_heading true is k =
        let given = body_given note_format note_laws no_lines AreNotes notes_grow (part ∷ parts) 2 ns k in
        (subst AreNarrowNotes given.is (given.keeps, given.narrow), ap₂ (λ l ls. l ∷ ls) (named line heading is) (given.lines ∙ ap (λ ms. with_last (map (spelling note_format) (note_lines ms) ++ codes "end" ∷ [])) given.is))
    by_heading false is k = cc

pub text_laws : IsTextFormat fault_names all_from lines_before_end AreNarrowNotes notes_from
text_laws =
    record {
      lack = λ ns is. (refl, lines_lack note_format note_laws (note_lines ns) is.1);
      scanned = λ ns i part parts is place.
          complete fault_names (map (spelling note_format) (note_lines ns)) part parts _
          ∙ lines_scanned note_format note_laws no_lines AreNotes notes_grow ns is.0 is.1 2 i part parts (omega (arith, place, length-map (note_lines ns) (spelling note_format)));
      short = λ ns i rest. refl;
      ends = λ ns i part parts. refl;
      given = all_given;
    }
