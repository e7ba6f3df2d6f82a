-- The content of a line that has a form: its words, and the numbers that they spell.
use Rattle.std.specs.Prelude.{ℕ, if◌then◌else◌, List, [], ◌∷◌, codes, Option, Some, None}
use Rattle.std.specs.Option.{option_map, option_and_then}
use Rattle.std.specs.Str.{bytes_eq}
use Rattle.line_format.specs.Lines.{words_of}
use Rattle.line_format.specs.Numerals.{numbers_of}
use Rattle.outline_rules.specs.declared.notes.NoteNode.{NoteNode}
use Rattle.outline_rules.specs.declared.notes.NoteNode.TheVariants.{False, True, Branch}
use Rattle.outline_rules.specs.declared.line.NoteLine.{NoteLine}
use Rattle.outline_rules.specs.declared.line.NoteLine.TheVariants.{Node, Note}

-- the node with this name and these numbers
abbrev pub node_of : List ℕ → List ℕ → Option NoteNode
node_of name [] = if bytes_eq name (codes "false") then Some False else (if bytes_eq name (codes "true") then Some True else None)
node_of name (x ∷ []) = None
node_of name (x ∷ y ∷ []) = None
node_of name (x ∷ y ∷ z ∷ []) = if bytes_eq name (codes "test") then Some (Branch x y z) else None
node_of name (x ∷ y ∷ z ∷ w ∷ ks) = None

-- the note with one number
abbrev pub note_of : List ℕ → Option NoteLine
note_of [] = None
note_of (k ∷ []) = Some (Note k)
note_of (k ∷ l ∷ ks) = None

abbrev pub node_of_words : List (List ℕ) → Option NoteLine
node_of_words [] = None
node_of_words (name ∷ ws) = option_map Node (option_and_then (node_of name) (numbers_of ws))

-- the content of a line by its first word: a node or a note
abbrev pub line_of_words : List (List ℕ) → Option NoteLine
line_of_words [] = None
line_of_words (kind ∷ ws) =
    if bytes_eq kind (codes "D") then node_of_words ws
    else (if bytes_eq kind (codes "C") then option_and_then note_of (numbers_of ws) else None)

abbrev pub read_line : List ℕ → Option NoteLine
read_line line = line_of_words (words_of line)
