-- Each line of notes is read from its spelling, and only from it.
use Rattle.std.proofs.Common.{◌≡◌, ℕ, ◌⊎◌, inl, inr, ⊎_elim, List, [], ◌∷◌, map, Bool, true, false, cond, Option, Some, None, refl, sym, ap, ◌∙◌, subst, codes}
use mathlib.Core.Path.{ap₂}
use Rattle.std.specs.Option.{option_map, option_and_then}
use Rattle.std.specs.Fmt.{decimal}
use Rattle.std.specs.Str.{bytes_eq}
use Rattle.line_format.specs.Lines.{words_of, line_of}
use Rattle.line_format.specs.Numerals.{numbers_of}
use Rattle.line_format.proofs.Splits.{LacksByte}
use Rattle.line_format.proofs.Words.{AreNarrow, numbers_back, numbers_given, IsWord, AreLineWords, decimals_words, words_back, line_back, line_lacks}
use Rattle.outline_rules.specs.declared.notes.NoteNode.{NoteNode}
use Rattle.outline_rules.specs.declared.notes.NoteNode.TheVariants.{False, True, Branch}
use Rattle.outline_rules.specs.declared.line.NoteLine.{NoteLine}
use Rattle.outline_rules.specs.declared.line.NoteLine.TheVariants.{Node, Note}
use Rattle.outline_rules.specs.Texts.{node_name, node_numbers, line_words, line_numbers, IsNarrow}
use Rattle.outline_rules.specs.Forms.{node_of, note_of, node_of_words, line_of_words, read_line}
use Rattle.line_format.proofs.LineSteps.{named}
use Rattle.kat_model.proofs.Options.{some_of_then}
use Rattle.line_format.proofs.NumberForms.{form_given}
use Rattle.outline_rules.specs.declared.line.Section.TheVariants.{Nodes}
use Rattle.outline_rules.specs.Faults.{section_of}
use Rattle.outline_rules.proofs.NoteForms.{node_given, node_same, node_given_line, node_made, note_given}

node_name_word : (n : NoteNode) → IsWord (node_name n)
node_name_word False = refl
node_name_word True = refl
node_name_word (Branch k x y) = refl

line_are_words : (l : NoteLine) → IsNarrow l → AreLineWords (line_words l)
line_are_words (Node n) narrow = (refl, (node_name_word n, decimals_words (node_numbers n) narrow))
line_are_words (Note k) narrow = (refl, decimals_words (k ∷ []) narrow)

line_of_its_words : (l : NoteLine) → IsNarrow l → line_of_words (line_words l) ≡ Some l
line_of_its_words (Node n) narrow = ap (λ o. option_map Node (option_and_then (node_of (node_name n)) o)) (numbers_back (node_numbers n) narrow) ∙ ap (option_map Node) (node_made n)
line_of_its_words (Note k) narrow = ap (option_and_then note_of) (numbers_back (k ∷ []) narrow)

-- reading the words of a line, or the line, gives its content
pub line_read : (l : NoteLine) → IsNarrow l → read_line (line_of (line_words l)) ≡ Some l
line_read l narrow = ap line_of_words (words_back (line_words l) (line_are_words l narrow)) ∙ line_of_its_words l narrow

pub line_lacks_feed : (l : NoteLine) → IsNarrow l → LacksByte 10 (line_of (line_words l))
line_lacks_feed l narrow = line_lacks (line_words l) (line_are_words l narrow)

-- no line of a node or a note is the line `end`
pub line_not_end : (l : NoteLine) → bytes_eq (line_of (line_words l)) (codes "end") ≡ false
line_not_end (Node n) = refl
line_not_end (Note k) = refl

-- ---- a line that is read has its spelling

-- the two cases of a line, by its first word
two_kinds : (a b : Bool) (x y : Option NoteLine) (l : NoteLine) → cond a x (cond b y None) ≡ Some l → ((a ≡ true) × (x ≡ Some l)) ⊎ ((b ≡ true) × (y ≡ Some l))
two_kinds true b x y l h = inl (refl, h)
two_kinds false true x y l h = inr (refl, h)
two_kinds false false x y l h = cc

node_line_given : (kind : List ℕ) (ws : List (List ℕ)) (l : NoteLine) → IsNarrow l → kind ≡ codes "D" → node_of_words ws ≡ Some l → kind ∷ ws ≡ line_words l
node_line_given kind [] l narrow is h = cc
node_line_given kind (name ∷ ws) l narrow is h =
    let given = form_given line_numbers section_of (node_of name) Node Nodes (node_same name) (node_given_line name) ws l narrow h in
    ap₂ (λ k ls. k ∷ ls) is (ap₂ (λ n ls. n ∷ ls) (node_given name given.1 given.0 given.2).0 given.3) ∙ ap line_words given.4

note_words : (ks : List ℕ) (l : NoteLine) → note_of ks ≡ Some l → codes "C" ∷ map decimal ks ≡ line_words l
note_words [] l e = cc
note_words (k ∷ []) l e = let same : Note k ≡ l = cc in ap line_words same
note_words (k ∷ j ∷ ks) l e = cc

note_line_given : (kind : List ℕ) (ws : List (List ℕ)) (l : NoteLine) → IsNarrow l → kind ≡ codes "C" → option_and_then note_of (numbers_of ws) ≡ Some l → kind ∷ ws ≡ line_words l
note_line_given kind ws l narrow is h =
    let read = some_of_then note_of (numbers_of ws) l h in
    let small = subst AreNarrow (sym (note_given read.0 l read.2).0) narrow in
    ap₂ (λ k ls. k ∷ ls) is (numbers_given ws read.0 read.1 small) ∙ note_words read.0 l read.2

words_given : (ws : List (List ℕ)) (l : NoteLine) → IsNarrow l → line_of_words ws ≡ Some l → ws ≡ line_words l
words_given [] l narrow h = cc
words_given (kind ∷ ws) l narrow h =
    ⊎_elim
    (λ p. node_line_given kind ws l narrow (named kind (codes "D") p.0) p.1)
    (λ p. note_line_given kind ws l narrow (named kind (codes "C") p.0) p.1)
    (two_kinds (bytes_eq kind (codes "D")) (bytes_eq kind (codes "C")) (node_of_words ws) (option_and_then note_of (numbers_of ws)) l h)

pub line_given : (line : List ℕ) (l : NoteLine) → IsNarrow l → read_line line ≡ Some l → line ≡ line_of (line_words l)
line_given line l narrow h = sym (line_back line) ∙ ap line_of (words_given (words_of line) l narrow h)
