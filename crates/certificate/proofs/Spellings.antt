-- The lines of entries: each spelling is read, and each line that is read is a spelling.
use Rattle.std.proofs.Common.{◌≡◌, ℕ, ◌^◌, ◌<◌, ◌⊎◌, inl, inr, ⊎_elim, List, [], ◌∷◌, ◌++◌, map, Bool, true, false, cond, Option, Some, None, refl, sym, ap, ◌∙◌, subst, codes, append-nil}
use mathlib.Core.Path.{ap₂}
use Rattle.std.specs.List.{slice_split, list_any}
use Rattle.std.specs.Option.{option_map, option_and_then}
use Rattle.std.specs.Fmt.{decimal}
use Rattle.std.specs.Str.{bytes_eq}
use Rattle.kat_model.proofs.Lists.{has_left, has_right}
use Rattle.term_nodes.specs.declared.TestNode.{TestNode}
use Rattle.term_nodes.specs.declared.TestNode.TheVariants.{False, True, Prim, Not, And, Or}
use Rattle.term_nodes.specs.declared.TermNode.{TermNode}
use Rattle.term_nodes.specs.declared.TermNode.TheVariants.{Zero, One, Test, Act, Sum, Seq, Star}
use Rattle.line_format.proofs.LineForms.{line_of-cons}
use Rattle.line_format.specs.Lines.{line_of, words_of}
use Rattle.line_format.specs.Numerals.{is_numeral, numbers_of}
use Rattle.line_format.proofs.Words.{AreNarrow, numbers_back, IsWord, AreWords, AreLineWords, decimals_words, words_append, words_back, line_back, line_lacks, numbers_given}
use Rattle.certificate.specs.declared.entry.Entry.{Entry}
use Rattle.certificate.specs.declared.entry.Entry.TheVariants.{TestLine, TermLine, PairLine}
use Rattle.certificate.specs.PairParts.{PairParts}
use Rattle.certificate.specs.Texts.{test_name, test_numbers, term_name, term_numbers, maybe_one, last_words, entry_words, entry_numbers, IsNarrow}
use Rattle.certificate.specs.Forms.{test_node_of, term_node_of, is_bar, pair_with, pair_of, entry_of_words, entry_of}
use Rattle.line_format.proofs.Splits.{LacksByte, split_none, split_first}
use Rattle.line_format.proofs.NumeralValues.{decimal_numeral}
use Rattle.certificate.proofs.EntryForms.{test_node_given, test_node_made, test_node_same, test_line_given, term_node_given, term_node_made, term_node_same, term_line_given}
use Rattle.line_format.proofs.LineSteps.{named}
use Rattle.line_format.proofs.NumberForms.{form_given}
use Rattle.kat_model.proofs.Options.{some_of_map}
use Rattle.certificate.specs.declared.entry.Section.TheVariants.{Tests, Terms}
use Rattle.certificate.specs.Faults.{section_of}
use Rattle.certificate.proofs.PairForms.{with_bars, bars_back, part_numbers, pair_made, pair_with_given}

-- ---- the words of an entry

test_name_word : (n : TestNode ℕ) → IsWord (test_name n)
test_name_word False = refl
test_name_word True = refl
test_name_word (Prim k) = refl
test_name_word (Not x) = refl
test_name_word (And x y) = refl
test_name_word (Or x y) = refl

term_name_word : (n : TermNode ℕ ℕ) → IsWord (term_name n)
term_name_word Zero = refl
term_name_word One = refl
term_name_word (Test x) = refl
term_name_word (Act a) = refl
term_name_word (Sum x y) = refl
term_name_word (Seq x y) = refl
term_name_word (Star x) = refl

-- the numbers of each part of a pair are narrow
module _ (p : PairParts) (narrow : IsNarrow (PairLine p)) where
  pub narrow_left : AreNarrow p.left
  narrow_left k h = narrow k (has_left p.left (p.right ++ maybe_one p.test) k h)

  pub narrow_right : AreNarrow p.right
  narrow_right k h = narrow k (has_right p.left (p.right ++ maybe_one p.test) k (has_left p.right (maybe_one p.test) k h))

  pub narrow_last : AreNarrow (maybe_one p.test)
  narrow_last k h = narrow k (has_right p.left (p.right ++ maybe_one p.test) k (has_right p.right (maybe_one p.test) k h))

last_are_words : (t : Option ℕ) → AreNarrow (maybe_one t) → AreWords (last_words t)
last_are_words None narrow = tt
last_are_words (Some k) narrow = (refl, decimals_words (k ∷ []) narrow)

entry_are_words : (e : Entry) → IsNarrow e → AreLineWords (entry_words e)
entry_are_words (TestLine n) narrow = (refl, (test_name_word n, decimals_words (test_numbers n) narrow))
entry_are_words (TermLine n) narrow = (refl, (term_name_word n, decimals_words (term_numbers n) narrow))
entry_are_words (PairLine p) narrow = (
  refl,
  words_append (map decimal p.left) (codes "|" ∷ (map decimal p.right ++ last_words p.test)) (decimals_words p.left (narrow_left p narrow))
      (refl, words_append (map decimal p.right) (last_words p.test) (decimals_words p.right (narrow_right p narrow)) (last_are_words p.test (narrow_last p narrow))),
)

-- ---- the bar of a pair

not_bar : (k : ℕ) → k < 2 ^ 64 → is_bar (decimal k) ≡ false
not_bar k small = by_test (is_bar (decimal k)) refl
  where
    by_test : (b : Bool) → is_bar (decimal k) ≡ b → is_bar (decimal k) ≡ false
    by_test true e =
        let bar : decimal k ≡ codes "|" = named (decimal k) (codes "|") e in
        let numeral : is_numeral (codes "|") ≡ true = ap is_numeral (sym bar) ∙ (decimal_numeral k small).0 in
        cc
    by_test false e = e

no_bars : (ks : List ℕ) → AreNarrow ks → list_any is_bar (map decimal ks) ≡ false
no_bars [] narrow = refl
no_bars (k ∷ ks) narrow = rw (not_bar k (narrow k (inl refl)), no_bars ks (λ l h. narrow l (inr h))) refl

-- the parts of a pair's words are those of its numbers
pair_split : (ks ls : List ℕ) (t : Option ℕ) → AreNarrow ks → AreNarrow ls → AreNarrow (maybe_one t) → map numbers_of (slice_split is_bar (map decimal ks ++ codes "|" ∷ (map decimal ls ++ last_words t))) ≡ part_numbers ks ls t
pair_split ks ls None nk nl nt =
    ap (map numbers_of)
    (split_first is_bar (map decimal ks) (codes "|") (map decimal ls ++ []) (no_bars ks nk) refl
    ∙ ap (λ l. map decimal ks ∷ slice_split is_bar l) (append-nil (map decimal ls))
    ∙ ap (λ l. map decimal ks ∷ l) (split_none is_bar (map decimal ls) (no_bars ls nl)))
    ∙ ap₂ (λ k l. k ∷ l ∷ []) (numbers_back ks nk) (numbers_back ls nl)
pair_split ks ls (Some t) nk nl nt =
    ap (map numbers_of)
    (split_first is_bar (map decimal ks) (codes "|") (map decimal ls ++ codes "|" ∷ decimal t ∷ []) (no_bars ks nk) refl
    ∙ ap (λ l. map decimal ks ∷ l)
    (split_first is_bar (map decimal ls) (codes "|") (decimal t ∷ []) (no_bars ls nl) refl
    ∙ ap (λ l. map decimal ls ∷ l) (split_none is_bar (decimal t ∷ []) (no_bars (t ∷ []) nt))))
    ∙ ap₂ (λ k l. k ∷ l) (numbers_back ks nk) (ap₂ (λ l m. l ∷ m ∷ []) (numbers_back ls nl) (numbers_back (t ∷ []) nt))

pub pair_back : (p : PairParts) → IsNarrow (PairLine p) → pair_of (map decimal p.left ++ codes "|" ∷ (map decimal p.right ++ last_words p.test)) ≡ Some p
pair_back p narrow = ap pair_with (pair_split p.left p.right p.test (narrow_left p narrow) (narrow_right p narrow) (narrow_last p narrow)) ∙ pair_made p.left p.right p.test

-- the words of a pair's line after the first are at least one
pair_words : (ls rest : List (List ℕ)) → entry_of_words (codes "P" ∷ (ls ++ codes "|" ∷ rest)) ≡ option_map PairLine (pair_of (ls ++ codes "|" ∷ rest))
pair_words [] rest = refl
pair_words (l ∷ ls) rest = refl

-- an entry is read from its words, and from its line
entry_of_its_words : (e : Entry) → IsNarrow e → entry_of_words (entry_words e) ≡ Some e
entry_of_its_words (TestLine n) narrow = ap (λ o. option_map TestLine (option_and_then (test_node_of (test_name n)) o)) (numbers_back (test_numbers n) narrow) ∙ ap (option_map TestLine) (test_node_made n)
entry_of_its_words (TermLine n) narrow = ap (λ o. option_map TermLine (option_and_then (term_node_of (term_name n)) o)) (numbers_back (term_numbers n) narrow) ∙ ap (option_map TermLine) (term_node_made n)
entry_of_its_words (PairLine p) narrow =
    pair_words (map decimal p.left) (map decimal p.right ++ last_words p.test) ∙ ap (option_map PairLine) (pair_back p narrow)

pub entry_back : (e : Entry) → IsNarrow e → entry_of (line_of (entry_words e)) ≡ Some e
entry_back e narrow = ap entry_of_words (words_back (entry_words e) (entry_are_words e narrow)) ∙ entry_of_its_words e narrow

pub entry_lacks : (e : Entry) → IsNarrow e → LacksByte 10 (line_of (entry_words e))
entry_lacks e narrow = line_lacks (entry_words e) (entry_are_words e narrow)

-- no entry is the line `end`
pub entry_not_end : (e : Entry) → bytes_eq (line_of (entry_words e)) (codes "end") ≡ false
entry_not_end (TestLine n) = refl
entry_not_end (TermLine n) = refl
entry_not_end (PairLine p) = ap (λ l. bytes_eq l (codes "end")) (line_of-cons (codes "P") (map decimal p.left ++ codes "|" ∷ (map decimal p.right ++ last_words p.test)))

-- ---- a line that is read is a spelling

cons_parts : {X : Type 0} (x y : X) (xs ys : List X) → x ∷ xs ≡ y ∷ ys → (x ≡ y) × (xs ≡ ys)
cons_parts x y xs ys e = (cc, cc)

-- the words of parts that have these numbers
parts_given : (parts : List (List (List ℕ))) (ks ls : List ℕ) (t : Option ℕ) → map numbers_of parts ≡ part_numbers ks ls t → AreNarrow ks → AreNarrow ls → AreNarrow (maybe_one t) → with_bars parts ≡ map decimal ks ++ codes "|" ∷ (map decimal ls ++ last_words t)
parts_given [] ks ls None e nk nl nt = cc
parts_given [] ks ls (Some t) e nk nl nt = cc
parts_given (a ∷ []) ks ls None e nk nl nt = cc
parts_given (a ∷ []) ks ls (Some t) e nk nl nt = cc
parts_given (a ∷ b ∷ []) ks ls None e nk nl nt =
    let one = cons_parts (numbers_of a) (Some ks) (numbers_of b ∷ []) (Some ls ∷ []) e in
    let two = cons_parts (numbers_of b) (Some ls) [] [] one.1 in
    ap₂ (λ v w. v ++ codes "|" ∷ w) (numbers_given a ks one.0 nk) (numbers_given b ls two.0 nl ∙ sym (append-nil (map decimal ls)))
parts_given (a ∷ b ∷ []) ks ls (Some t) e nk nl nt = cc
parts_given (a ∷ b ∷ c ∷ parts) ks ls None e nk nl nt = cc
parts_given (a ∷ b ∷ c ∷ []) ks ls (Some t) e nk nl nt =
    let one = cons_parts (numbers_of a) (Some ks) (numbers_of b ∷ numbers_of c ∷ []) (Some ls ∷ Some (t ∷ []) ∷ []) e in
    let two = cons_parts (numbers_of b) (Some ls) (numbers_of c ∷ []) (Some (t ∷ []) ∷ []) one.1 in
    let three = cons_parts (numbers_of c) (Some (t ∷ [])) [] [] two.1 in
    ap₂ (λ v w. v ++ codes "|" ∷ w) (numbers_given a ks one.0 nk) (ap₂ (λ v w. v ++ codes "|" ∷ w) (numbers_given b ls two.0 nl) (numbers_given c (t ∷ []) three.0 nt))
parts_given (a ∷ b ∷ c ∷ d ∷ parts) ks ls (Some t) e nk nl nt = cc

pair_given : (ws : List (List ℕ)) (p : PairParts) → IsNarrow (PairLine p) → pair_of ws ≡ Some p → ws ≡ map decimal p.left ++ codes "|" ∷ (map decimal p.right ++ last_words p.test)
pair_given ws p narrow e =
    let parts : List (List (List ℕ)) = slice_split is_bar ws in
    sym (bars_back ws)
    ∙ parts_given parts p.left p.right p.test (pair_with_given (map numbers_of parts) p e) (narrow_left p narrow) (narrow_right p narrow) (narrow_last p narrow)

-- the cases of an entry by its first word
three_kinds : (a b c : Bool) (x y z : Option Entry) (e : Entry) → cond a x (cond b y (cond c z None)) ≡ Some e → ((a ≡ true) × (x ≡ Some e)) ⊎ (((b ≡ true) × (y ≡ Some e)) ⊎ ((c ≡ true) × (z ≡ Some e)))
three_kinds true b c x y z e h = inl (refl, h)
three_kinds false true c x y z e h = inr (inl (refl, h))
three_kinds false false true x y z e h = inr (inr (refl, h))
three_kinds false false false x y z e h = cc

test_given : (kind name : List ℕ) (ws : List (List ℕ)) (e : Entry) → IsNarrow e → kind ≡ codes "T" → option_map TestLine (option_and_then (test_node_of name) (numbers_of ws)) ≡ Some e → kind ∷ name ∷ ws ≡ entry_words e
test_given kind name ws e narrow is h =
    let given = form_given entry_numbers section_of (test_node_of name) TestLine Tests (test_node_same name) (test_line_given name) ws e narrow h in
    ap₂ (λ k l. k ∷ l) is (ap₂ (λ n l. n ∷ l) (test_node_given name given.1 given.0 given.2).0 given.3) ∙ ap entry_words given.4

term_given : (kind name : List ℕ) (ws : List (List ℕ)) (e : Entry) → IsNarrow e → kind ≡ codes "E" → option_map TermLine (option_and_then (term_node_of name) (numbers_of ws)) ≡ Some e → kind ∷ name ∷ ws ≡ entry_words e
term_given kind name ws e narrow is h =
    let given = form_given entry_numbers section_of (term_node_of name) TermLine Terms (term_node_same name) (term_line_given name) ws e narrow h in
    ap₂ (λ k l. k ∷ l) is (ap₂ (λ n l. n ∷ l) (term_node_given name given.1 given.0 given.2).0 given.3) ∙ ap entry_words given.4

set_given : (kind : List ℕ) (ws : List (List ℕ)) (e : Entry) → IsNarrow e → kind ≡ codes "P" → option_map PairLine (pair_of ws) ≡ Some e → kind ∷ ws ≡ entry_words e
set_given kind ws e narrow is h =
    let made = some_of_map PairLine (pair_of ws) e h in
    ap₂ (λ k l. k ∷ l) is (pair_given ws made.0 (subst IsNarrow (sym made.2) narrow) made.1) ∙ ap entry_words made.2

words_given : (ws : List (List ℕ)) (e : Entry) → IsNarrow e → entry_of_words ws ≡ Some e → ws ≡ entry_words e
words_given [] e narrow h = cc
words_given (kind ∷ []) e narrow h = cc
words_given (kind ∷ name ∷ ws) e narrow h =
    ⊎_elim
    (λ p. test_given kind name ws e narrow (named kind (codes "T") p.0) p.1)
    (λ q. ⊎_elim
    (λ p. term_given kind name ws e narrow (named kind (codes "E") p.0) p.1)
    (λ p. set_given kind (name ∷ ws) e narrow (named kind (codes "P") p.0) p.1)
    q)
    (three_kinds (bytes_eq kind (codes "T")) (bytes_eq kind (codes "E")) (bytes_eq kind (codes "P")) _ _ _ e h)

-- a line that is read as an entry is the line of this entry
pub entry_given : (line : List ℕ) (e : Entry) → IsNarrow e → entry_of line ≡ Some e → line ≡ line_of (entry_words e)
entry_given line e narrow h = sym (line_back line) ∙ ap line_of (words_given (words_of line) e narrow h)
