-- The forms of the lines of notes, and how the numbers of a line relate to its form.
use Rattle.std.proofs.Common.{◌≡◌, ℕ, ⊎_elim, List, [], ◌∷◌, map, length, Bool, true, false, cond, Option, Some, None, refl, sym, ap, ◌∙◌, arith, codes}
use Rattle.std.specs.List.{list_all}
use Rattle.std.specs.Option.{option_map, option_and_then}
use Rattle.std.specs.Str.{bytes_eq}
use Rattle.kat_model.proofs.Options.{some_of_cond, some_of_conds}
use Rattle.line_format.proofs.LineSteps.{named}
use Rattle.line_format.proofs.NumberForms.{wide_form}
use Rattle.line_format.specs.Numerals.{is_numeral, value_of, numbers_of}
use Rattle.line_format.specs.Readings.{HasNumbers}
use Rattle.line_format.specs.declared.numerals.Numbers.{Numbers}
use Rattle.outline_rules.specs.declared.notes.NoteNode.{NoteNode}
use Rattle.outline_rules.specs.declared.notes.NoteNode.TheVariants.{False, True, Branch}
use Rattle.outline_rules.specs.declared.line.NoteLine.{NoteLine}
use Rattle.outline_rules.specs.declared.line.NoteLine.TheVariants.{Node, Note}
use Rattle.outline_rules.specs.declared.line.Section.TheVariants.{Nodes, Notes}
use Rattle.outline_rules.specs.Texts.{node_name, node_numbers, line_numbers}
use Rattle.outline_rules.specs.Forms.{node_of, note_of}
use Rattle.outline_rules.specs.Faults.{is_wide, section_of}

-- a node is read only from its own name and numbers
pub node_given : (name ks : List ℕ) (n : NoteNode) → node_of name ks ≡ Some n → (name ≡ node_name n) × (ks ≡ node_numbers n)
node_given name [] n e =
    ⊎_elim
    (λ p. (named name (codes "false") p.0 ∙ ap node_name p.1, ap node_numbers p.1))
    (λ p. (named name (codes "true") p.0 ∙ ap node_name p.1, ap node_numbers p.1))
    (some_of_conds (bytes_eq name (codes "false")) (bytes_eq name (codes "true")) False True n e)
node_given name (x ∷ []) n e = cc
node_given name (x ∷ y ∷ []) n e = cc
node_given name (x ∷ y ∷ z ∷ []) n e =
    let p = some_of_cond (bytes_eq name (codes "test")) (Branch x y z) n e in
    (named name (codes "test") p.0 ∙ ap node_name p.1, ap node_numbers p.1)
node_given name (x ∷ y ∷ z ∷ w ∷ ks) n e = cc

pub node_made : (n : NoteNode) → node_of (node_name n) (node_numbers n) ≡ Some n
node_made False = refl
node_made True = refl
node_made (Branch k x y) = refl

pub note_given : (ks : List ℕ) (l : NoteLine) → note_of ks ≡ Some l → (ks ≡ line_numbers l) × (section_of l ≡ Notes)
note_given [] l e = cc
note_given (k ∷ []) l e = let same : Note k ≡ l = cc in (ap line_numbers same, ap section_of (sym same))
note_given (k ∷ j ∷ ks) l e = cc

-- whether numbers form a node depends on how many they are, not on their values
some_of_one : {N : Type 0} (b : Bool) (y : N) → b ≡ true → (m : N) × (cond b (Some y) None ≡ Some m)
some_of_one true y h = (y, refl)
some_of_one false y h = cc

pub node_same : (name xs ys : List ℕ) (n : NoteNode) → length xs ≡ length ys → node_of name xs ≡ Some n → (m : NoteNode) × (node_of name ys ≡ Some m)
node_same name [] [] n h e = (n, e)
node_same name [] (y ∷ ys) n h e = absurd (omega arith)
node_same name (x ∷ []) ys n h e = cc
node_same name (x ∷ w ∷ []) ys n h e = cc
node_same name (x ∷ w ∷ v ∷ []) [] n h e = absurd (omega arith)
node_same name (x ∷ w ∷ v ∷ []) (y ∷ []) n h e = absurd (omega arith)
node_same name (x ∷ w ∷ v ∷ []) (y ∷ z ∷ []) n h e = absurd (omega arith)
node_same name (x ∷ w ∷ v ∷ []) (y ∷ z ∷ t ∷ []) n h e =
    some_of_one (bytes_eq name (codes "test")) (Branch y z t) (some_of_cond (bytes_eq name (codes "test")) (Branch x w v) n e).0
node_same name (x ∷ w ∷ v ∷ []) (y ∷ z ∷ t ∷ s ∷ ys) n h e = absurd (omega arith)
node_same name (x ∷ w ∷ v ∷ u ∷ xs) ys n h e = cc

pub note_same : (xs ys : List ℕ) (l : NoteLine) → length xs ≡ length ys → note_of xs ≡ Some l → (m : NoteLine) × (note_of ys ≡ Some m)
note_same [] ys l h e = cc
note_same (x ∷ []) [] l h e = absurd (omega arith)
note_same (x ∷ []) (y ∷ []) l h e = (Note y, refl)
note_same (x ∷ []) (y ∷ z ∷ ys) l h e = absurd (omega arith)
note_same (x ∷ w ∷ xs) ys l h e = cc

pub node_given_line : (name : List ℕ) (ks : List ℕ) (n : NoteNode) → node_of name ks ≡ Some n → (ks ≡ line_numbers (Node n)) × (section_of (Node n) ≡ Nodes)
node_given_line name ks n e = ((node_given name ks n e).1, refl)

pub wide_node : (name : List ℕ) (ws : List (List ℕ)) (v : Numbers) (n : NoteNode) → list_all is_numeral ws ≡ true → HasNumbers (map value_of ws) v → node_of name v.values.items ≡ Some n → v.wide ≡ true → (l : NoteLine) × (option_map Node (option_and_then (node_of name) (numbers_of ws)) ≡ Some l) × (is_wide l ≡ true) × (section_of l ≡ Nodes)
wide_node name = wide_form line_numbers section_of (node_of name) Node Nodes (node_same name) (node_given_line name)

-- the same for notes
own_line : (o : Option NoteLine) → option_map (λ (l : NoteLine). l) o ≡ o
own_line None = refl
own_line (Some l) = refl

pub wide_note : (ws : List (List ℕ)) (v : Numbers) (l : NoteLine) → list_all is_numeral ws ≡ true → HasNumbers (map value_of ws) v → note_of v.values.items ≡ Some l → v.wide ≡ true → (m : NoteLine) × (option_and_then note_of (numbers_of ws) ≡ Some m) × (is_wide m ≡ true) × (section_of m ≡ Notes)
wide_note ws v l e has is wide =
    let t = wide_form line_numbers section_of note_of (λ (m : NoteLine). m) Notes note_same note_given ws v l e has is wide in
    (t.0, sym (own_line (option_and_then note_of (numbers_of ws))) ∙ t.1, t.2, t.3)
