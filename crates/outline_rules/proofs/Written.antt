-- The writer writes the text of the notes.
use Rattle.std.proofs.Common.{◌≡◌, ℕ, ◌+◌, ◌<◌, ◌≤◌, List, [], ◌∷◌, ◌++◌, map, length, take, get_or, sym, ap, ◌∙◌, append_assoc, codes}
use Rattle.std.proofs.lemmas.List.{flat_map_more, map_more, take_all}
use Rattle.std.proofs.lemmas.Grind.{flat_map-append}
use Rattle.line_format.specs.Lines.{line_of, with_feed, text_of_lines}
use Rattle.line_format.proofs.LineForms.{lines_then_end}
use Rattle.outline_rules.specs.declared.notes.NoteNode.{NoteNode}
use Rattle.outline_rules.specs.declared.line.NoteLine.{NoteLine}
use Rattle.outline_rules.specs.declared.line.NoteLine.TheVariants.{Node, Note}
use Rattle.outline_rules.specs.NoteLists.{NotesParts}
use Rattle.outline_rules.specs.Texts.{heading, line_words, note_lines, text_of}
use Rattle.outline_rules.specs.Faults.{note_format}
use Rattle.outline_rules.specs.Working.Writings.{lines_text}
use Rattle.line_format.specs.NumberedLines.{spelling}

-- the output with the lines of the first elements of a list, an additional one of them, and all of them
module _ {X : Type 0} (line : X → NoteLine) (start before : List ℕ) (xs : List X) (i : ℕ) (so_far : before ≡ start ++ lines_text (map line (take i xs))) where
  pub lines_more : (after : List ℕ) (d : X) → i < length xs → after ≡ before ++ with_feed (line_of (line_words (line (get_or xs i d)))) → after ≡ start ++ lines_text (map line (take (i + 1) xs))
  lines_more after d lt written =
      written
      ∙ ap (λ (l : List ℕ). l ++ with_feed (line_of (line_words (line (get_or xs i d))))) so_far
      ∙ flat_map_more (λ (l : NoteLine). with_feed (line_of (line_words l))) start (map line (take i xs)) (line (get_or xs i d))
      ∙ ap (λ (ls : List NoteLine). start ++ lines_text ls) (sym (map_more line xs i d lt))

  pub lines_done : length xs ≤ i → before ≡ start ++ lines_text (map line xs)
  lines_done past = so_far ∙ ap (λ (ys : List X). start ++ lines_text (map line ys)) (take_all i xs past)

pub notes_written : (empty first second third all : List ℕ) (nodes : List NoteNode) (notes : List ℕ) (ns : NotesParts) → empty ≡ [] → nodes ≡ ns.nodes → notes ≡ ns.notes →
    first ≡ empty ++ with_feed heading → second ≡ first ++ lines_text (map Node nodes) → third ≡ second ++ lines_text (map Note notes) → all ≡ third ++ with_feed (codes "end") → all ≡ text_of ns
notes_written empty first second third all nodes notes ns none en ek e1 e2 e3 e4 =
    let h : List ℕ = with_feed heading in
    let a : List ℕ = lines_text (map Node ns.nodes) in
    let b : List ℕ = lines_text (map Note ns.notes) in
    let e : List ℕ = with_feed (codes "end") in
    let one : first ≡ h = e1 ∙ ap (λ l. l ++ h) none in
    let two : second ≡ h ++ a = e2 ∙ ap (λ l. first ++ lines_text (map Node l)) en ∙ ap (λ l. l ++ a) one in
    let three : third ≡ (h ++ a) ++ b = e3 ∙ ap (λ l. second ++ lines_text (map Note l)) ek ∙ ap (λ l. l ++ b) two in
    let body : text_of_lines (map (spelling note_format) (note_lines ns) ++ codes "end" ∷ []) ≡ (a ++ b) ++ e =
    lines_then_end (spelling note_format) (note_lines ns) ∙ ap (λ l. l ++ e) (flat_map-append (λ l. with_feed (spelling note_format l)) (map Node ns.nodes) (map Note ns.notes)) in
    e4 ∙ ap (λ l. l ++ e) (three ∙ append_assoc h a b) ∙ append_assoc h (a ++ b) e ∙ ap (λ l. h ++ l) (sym body)
