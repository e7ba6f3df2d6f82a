-- The text of notes: its lines, each of which has one spelling.
use Rattle.std.specs.Prelude.{ℕ, ◌^◌, ◌<◌, List, [], ◌∷◌, ◌++◌, map, codes}
use Rattle.std.specs.Fmt.{decimal}
use Rattle.kat_model.specs.Members.{Has}
use Rattle.line_format.specs.Lines.{line_of, text_of_lines}
use Rattle.outline_rules.specs.declared.notes.NoteNode.{NoteNode}
use Rattle.outline_rules.specs.declared.notes.NoteNode.TheVariants.{False, True, Branch}
use Rattle.outline_rules.specs.declared.line.NoteLine.{NoteLine}
use Rattle.outline_rules.specs.declared.line.NoteLine.TheVariants.{Node, Note}
use Rattle.outline_rules.specs.NoteLists.{NotesParts, AreNotes}

-- the name of a node's form, and the numbers that follow it
abbrev pub node_name : NoteNode → List ℕ
node_name False = codes "false"
node_name True = codes "true"
node_name (Branch test low high) = codes "test"

abbrev pub node_numbers : NoteNode → List ℕ
node_numbers False = []
node_numbers True = []
node_numbers (Branch test low high) = test ∷ low ∷ high ∷ []

-- the words of the line of a node or a note
abbrev pub line_words : NoteLine → List (List ℕ)
line_words (Node n) = codes "D" ∷ node_name n ∷ map decimal (node_numbers n)
line_words (Note k) = codes "C" ∷ map decimal (k ∷ [])

-- the numbers in the line of a node or a note
abbrev pub line_numbers : NoteLine → List ℕ
line_numbers (Node n) = node_numbers n
line_numbers (Note k) = k ∷ []

-- the first line of the text of notes
abbrev pub heading : List ℕ
heading = codes "kat 1 outline"

-- the lines of the nodes, then the lines of the notes
abbrev pub note_lines : NotesParts → List NoteLine
note_lines ns = map Node ns.nodes ++ map Note ns.notes

-- the lines of notes before the line `end`
abbrev pub lines_before_end : NotesParts → List (List ℕ)
lines_before_end ns = heading ∷ map (λ l. line_of (line_words l)) (note_lines ns)

-- all lines of notes
abbrev pub lines_of : NotesParts → List (List ℕ)
lines_of ns = lines_before_end ns ++ codes "end" ∷ []

-- the one spelling of notes
abbrev pub text_of : NotesParts → List ℕ
text_of ns = text_of_lines (lines_of ns)

-- all numbers of the line are below 2^64
abbrev pub IsNarrow : NoteLine → Type 0
IsNarrow l = (k : ℕ) → Has (line_numbers l) k → k < 2 ^ 64

-- the notes keep the rules, and all their numbers are below 2^64
abbrev pub AreNarrowNotes : NotesParts → Type 0
AreNarrowNotes ns = AreNotes ns × ((l : NoteLine) → Has (note_lines ns) l → IsNarrow l)
