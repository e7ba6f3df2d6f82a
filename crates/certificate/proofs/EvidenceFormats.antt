-- The lines of entries and of moves keep the laws of a format of numbered lines, and the text of evidence those of texts.
use Rattle.std.proofs.Common.{◌≡◌, ℕ, ◌^◌, ◌<◌, inl, ⊎_elim, List, [], ◌∷◌, ◌++◌, map, length, ◌&&◌, nat_lt, true, eqb-true, ◌==◌, Some, slice_get, refl, sym, ap, ◌∙◌, subst, append_assoc, append-nil}
use mathlib.Core.Path.{ap₂}
use Rattle.std.proofs.lemmas.Bool.{and_parts}
use Rattle.std.proofs.lemmas.List.{map-append, map-id, nil_from_length}
use Rattle.std.proofs.lemmas.List.Folds.{list_all-append}
use Rattle.kat_model.specs.Members.{Has, HasNoDoubles}
use Rattle.kat_model.proofs.Lists.{has_left, has_right, has_at, no_earlier, map_has}
use Rattle.kat_model.proofs.Places.{slice_get-append_seam}
use Rattle.kat_model.specs.Steps.{Atom}
use Rattle.kat_model.specs.Strings.{Move, GuardedString}
use Rattle.term_nodes.specs.declared.TestNode.{TestNode}
use Rattle.term_nodes.specs.declared.TermNode.{TermNode}
use Rattle.term_nodes.specs.Nodes.{test_parts, term_parts, tests_of_term, same_test_node, same_term_node}
use Rattle.term_nodes.proofs.Parts.{IsTestOver-part, IsOver-part, IsOver-test, has_below}
use Rattle.line_format.specs.NumberedLines.{AllNarrow}
use Rattle.line_format.proofs.Words.{none_wide}
use Rattle.line_format.proofs.KnownLines.{any_lacks}
use Rattle.line_format.proofs.LineTests.{Passes}
use Rattle.line_format.proofs.FormatLaws.{IsLineFormat, Reaches, GrowsFrom, section_reached, nothing_reached}
use Rattle.certificate.specs.declared.nodes.Style.{Style}
use Rattle.certificate.specs.declared.entry.Entry.{Entry}
use Rattle.certificate.specs.declared.entry.Entry.TheVariants.{TestLine, TermLine, PairLine}
use Rattle.certificate.specs.PairParts.{PairParts}
use Rattle.certificate.specs.Certs.{CertParts, IsCert}
use Rattle.certificate.specs.Texts.{entry_numbers, entries_of, IsNarrow}
use Rattle.certificate.specs.Faults.{section_of, is_section_allowed, with_entry, entry_format, move_format, no_entries}
use Rattle.certificate.proofs.Growth.{cert_grown, test_allowed, test_below, same_test_equal, test_same_itself, same_term_equal, term_same_itself}
use Rattle.certificate.proofs.Spellings.{entry_back, entry_given, entry_lacks, entry_not_end}
use Rattle.certificate.proofs.StringSpellings.{move_back, move_given, move_lacks, move_not_end}

-- ---- entries

entries_grown : (c : CertParts) (e : Entry) → is_section_allowed c (section_of e) ≡ true → entries_of (with_entry c e) ≡ entries_of c ++ e ∷ []
entries_grown c (TestLine n) allowed =
    let none = and_parts (length c.term_nodes == 0) (length c.pairs == 0) allowed in
    let terms : c.term_nodes ≡ [] = nil_from_length c.term_nodes (eqb-true (length c.term_nodes) 0 none.0) in
    let pairs : c.pairs ≡ [] = nil_from_length c.pairs (eqb-true (length c.pairs) 0 none.1) in
    let alone : (ts : List (TestNode ℕ)) → map TestLine ts ++ (map TermLine c.term_nodes ++ map PairLine c.pairs) ≡ map TestLine ts = λ ts. ap₂ (λ l r. map TestLine ts ++ (map TermLine l ++ map PairLine r)) terms pairs ∙ append-nil (map TestLine ts) in
    alone (c.test_nodes ++ n ∷ []) ∙ map-append TestLine c.test_nodes (n ∷ []) ∙ ap (λ l. l ++ TestLine n ∷ []) (sym (alone c.test_nodes))
entries_grown c (TermLine n) allowed =
    let pairs : c.pairs ≡ [] = nil_from_length c.pairs (eqb-true (length c.pairs) 0 allowed) in
    let tests : List Entry = map TestLine c.test_nodes in
    let alone : (ts : List (TermNode ℕ ℕ)) → tests ++ (map TermLine ts ++ map PairLine c.pairs) ≡ tests ++ map TermLine ts = λ ts. ap (λ r. tests ++ (map TermLine ts ++ map PairLine r)) pairs ∙ ap (λ l. tests ++ l) (append-nil (map TermLine ts)) in
    alone (c.term_nodes ++ n ∷ []) ∙ ap (λ l. tests ++ l) (map-append TermLine c.term_nodes (n ∷ [])) ∙ sym (append_assoc tests (map TermLine c.term_nodes) (TermLine n ∷ []))
    ∙ ap (λ l. l ++ TermLine n ∷ []) (sym (alone c.term_nodes))
entries_grown c (PairLine p) allowed =
    let tests : List Entry = map TestLine c.test_nodes in
    let terms : List Entry = map TermLine c.term_nodes in
    let pairs : List Entry = map PairLine c.pairs in
    ap (λ l. tests ++ (terms ++ l)) (map-append PairLine c.pairs (p ∷ [])) ∙ ap (λ l. tests ++ l) (sym (append_assoc terms pairs (PairLine p ∷ []))) ∙ sym (append_assoc tests (terms ++ pairs) (PairLine p ∷ []))

pub entry_laws : IsLineFormat entry_format
entry_laws = record { read_back = entry_back; read_given = entry_given; lacks_feed = entry_lacks; not_end = entry_not_end; lines_grown = entries_grown }

-- the entries of a certificate pass
module _ (c : CertParts) (cert : IsCert c) (narrow : (e : Entry) → Has (entries_of c) e → IsNarrow e) where
  abbrev parts : List (TestNode ℕ) → List (TermNode ℕ ℕ) → List PairParts → CertParts
  parts tests terms pairs = record { style = c.style; test_nodes = tests; term_nodes = terms; pairs = pairs }

  test_passes : (done : List (TestNode ℕ)) (n : TestNode ℕ) (left : List (TestNode ℕ)) → c.test_nodes ≡ done ++ n ∷ left → Passes entry_format (parts done [] []) (TestLine n)
  test_passes done n left e =
      let there : slice_get c.test_nodes (length done) ≡ Some n = ap (λ l. slice_get l (length done)) e ∙ slice_get-append_seam done n left in
      let has : Has c.test_nodes n = subst (λ l. Has l n) (sym e) (has_at done n left) in
      record {
        allowed = refl;
        narrow = none_wide (entry_numbers (TestLine n)) (narrow (TestLine n) (has_left (map TestLine c.test_nodes) (map TermLine c.term_nodes ++ map PairLine c.pairs) (TestLine n) (map_has TestLine c.test_nodes n has)));
        earlier = rw (has_below (length done) (test_parts n) (IsTestOver-part (length done) n (cert.nodes.tests_ordered (length done) n there))) refl;
        new = any_lacks same_test_node same_test_equal test_same_itself done n (no_earlier done n left (subst HasNoDoubles e cert.nodes.tests_once));
        last = refl;
      }

  term_passes : (done : List (TermNode ℕ ℕ)) (n : TermNode ℕ ℕ) (left : List (TermNode ℕ ℕ)) → c.term_nodes ≡ done ++ n ∷ left → Passes entry_format (parts c.test_nodes done []) (TermLine n)
  term_passes done n left e =
      let there : slice_get c.term_nodes (length done) ≡ Some n = ap (λ l. slice_get l (length done)) e ∙ slice_get-append_seam done n left in
      let over = cert.nodes.terms_ordered (length done) n there in
      let has : Has c.term_nodes n = subst (λ l. Has l n) (sym e) (has_at done n left) in
      let small : IsNarrow (TermLine n) =
      narrow (TermLine n)
      (has_right (map TestLine c.test_nodes) (map TermLine c.term_nodes ++ map PairLine c.pairs) (TermLine n)
      (has_left (map TermLine c.term_nodes) (map PairLine c.pairs) (TermLine n) (map_has TermLine c.term_nodes n has))) in
      record {
        allowed = refl;
        narrow = none_wide (entry_numbers (TermLine n)) small;
        earlier = rw (has_below (length c.test_nodes) (tests_of_term n) (IsOver-test (length c.test_nodes) (length done) n over), has_below (length done) (term_parts n) (IsOver-part (length c.test_nodes) (length done) n over)) refl;
        new = any_lacks same_term_node same_term_equal term_same_itself done n (no_earlier done n left (subst HasNoDoubles e cert.nodes.terms_once));
        last = refl;
      }

  pair_passes : (done : List PairParts) (p : PairParts) (left : List PairParts) → c.pairs ≡ done ++ p ∷ left → Passes entry_format (parts c.test_nodes c.term_nodes done) (PairLine p)
  pair_passes done p left e =
      let has : Has c.pairs p = subst (λ l. Has l p) (sym e) (has_at done p left) in
      let pair = cert.pairs p has in
      let terms = list_all-append (λ k. nat_lt k (length c.term_nodes)) p.left p.right ∙ ap₂ (λ a b. a && b) pair.left.there pair.right.there in
      let small : IsNarrow (PairLine p) =
      narrow (PairLine p)
      (has_right (map TestLine c.test_nodes) (map TermLine c.term_nodes ++ map PairLine c.pairs) (PairLine p)
      (has_right (map TermLine c.term_nodes) (map PairLine c.pairs) (PairLine p) (map_has PairLine c.pairs p has))) in
      record {
        allowed = test_allowed (parts c.test_nodes c.term_nodes done) (length c.test_nodes) p.test pair.test;
        narrow = none_wide (entry_numbers (PairLine p)) small;
        earlier = ap₂ (λ a b. a && b) (test_below c.style (length c.test_nodes) p.test pair.test) terms;
        new = refl;
        last = ap₂ (λ a b. a && b) pair.left.ascending pair.right.ascending;
      }

  entries_reached : Reaches entry_format (no_entries c.style) (entries_of c) c
  entries_reached =
      let pairs : Reaches entry_format (parts c.test_nodes c.term_nodes []) (map PairLine c.pairs) c =
      subst (λ es. Reaches entry_format (parts c.test_nodes c.term_nodes []) es c) (append-nil (map PairLine c.pairs))
      (section_reached entry_format PairLine (λ done. parts c.test_nodes c.term_nodes done) c.pairs (λ done p. refl) pair_passes [] c (nothing_reached entry_format c)) in
      let terms : Reaches entry_format (parts c.test_nodes [] []) (map TermLine c.term_nodes ++ map PairLine c.pairs) c =
      section_reached entry_format TermLine (λ done. parts c.test_nodes done []) c.term_nodes (λ done n. refl) term_passes (map PairLine c.pairs) c pairs in
      section_reached entry_format TestLine (λ done. parts done [] []) c.test_nodes (λ done n. refl) test_passes (map TermLine c.term_nodes ++ map PairLine c.pairs) c terms

-- a certificate of a style
abbrev pub IsCertIn : Style → CertParts → Type 0
IsCertIn style c = IsCert c × (c.style ≡ style)

-- a certificate without entries keeps the rules
no_cert : (style : Style) → IsCert (no_entries style)
no_cert style =
    record {
      nodes = record { tests_ordered = λ k n e. cc; terms_ordered = λ k n e. cc; tests_once = tt; terms_once = tt };
      pairs = λ p h. absurd h;
    }

same_style : (c : CertParts) (e : Entry) → (with_entry c e).style ≡ c.style
same_style c (TestLine n) = refl
same_style c (TermLine n) = refl
same_style c (PairLine p) = refl

pub certs_grow : (style : Style) → GrowsFrom entry_format (no_entries style) (IsCertIn style)
certs_grow style =
    record {
      begins = (no_cert style, refl);
      empty = refl;
      grown = λ c e keeps passes. (cert_grown c e keeps.0 passes, same_style c e ∙ keeps.1);
      reached = λ c keeps narrow. subst (λ s. Reaches entry_format (no_entries s) (entries_of c) c) keeps.1 (entries_reached c keeps.0 narrow);
    }

-- ---- moves

pub move_laws : IsLineFormat move_format
move_laws =
    record {
      read_back = λ m narrow. move_back m (narrow m.act (inl refl));
      read_given = λ line m narrow. move_given line m (narrow m.act (inl refl));
      lacks_feed = λ m narrow. move_lacks m (narrow m.act (inl refl));
      not_end = move_not_end;
      lines_grown = λ x m allowed. refl;
    }

-- moves have narrow lines exactly if their actions are below 2^64
pub moves_narrow : (x : GuardedString) → ((m : Move) → Has x.rest m → m.act < 2 ^ 64) → AllNarrow move_format x
moves_narrow x small m h k j = ⊎_elim (λ e. subst (λ n. n < 2 ^ 64) e (small m h)) absurd j

pub narrow_moves : (x : GuardedString) → AllNarrow move_format x → (m : Move) → Has x.rest m → m.act < 2 ^ 64
narrow_moves x narrow m h = narrow m h m.act (inl refl)

moves_reached : (x : GuardedString) → AllNarrow move_format x → Reaches move_format (record { first = x.first; rest = [] }) x.rest x
moves_reached x narrow =
    subst (λ ms. Reaches move_format (record { first = x.first; rest = [] }) ms x) (append-nil (map (λ (m : Move). m) x.rest) ∙ map-id x.rest)
    (section_reached move_format (λ (m : Move). m) (λ done. record { first = x.first; rest = done }) x.rest (λ done m. refl)
    (λ done m left e. record { allowed = refl; narrow = none_wide (m.act ∷ []) (narrow m (subst (λ l. Has l m) (sym e) (has_at done m left))); earlier = refl; new = refl; last = refl })
    [] x (nothing_reached move_format x))

pub strings_grow : (atom : Atom) → GrowsFrom move_format (record { first = atom; rest = [] }) (λ x. x.first ≡ atom)
strings_grow atom =
    record {
      begins = refl;
      empty = refl;
      grown = λ x m keeps passes. keeps;
      reached = λ x keeps narrow. subst (λ a. Reaches move_format (record { first = a; rest = [] }) x.rest x) keeps (moves_reached x narrow);
    }
