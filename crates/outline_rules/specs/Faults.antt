-- The first fault of a text that is not the text of notes.
use Rattle.std.specs.Prelude.{ℕ, Bool, true, false, ◌&&◌, ◌==◌, nat_lt, if◌then◌else◌, List, [], ◌∷◌, ◌++◌, length, Option, Result, Err}
use Rattle.std.specs.List.{list_any, list_all}
use Rattle.std.specs.Result.{result_err}
use Rattle.std.specs.Str.{bytes_eq}
use Rattle.line_format.specs.Lines.{parts_of}
use Rattle.line_format.specs.Numerals.{too_wide}
use Rattle.line_format.specs.NumberedLines.{FaultNames, LineFormat, fault_after, lines_from, first_then}
use Rattle.outline_rules.specs.declared.notes.NoteNode.{NoteNode}
use Rattle.outline_rules.specs.declared.notes.NoteNode.TheVariants.{False, True, Branch}
use Rattle.outline_rules.specs.declared.line.NoteLine.{NoteLine}
use Rattle.outline_rules.specs.declared.line.NoteLine.TheVariants.{Node, Note}
use Rattle.outline_rules.specs.declared.line.Section.{Section}
use Rattle.outline_rules.specs.declared.line.Section.TheVariants.{Nodes, Notes}
use Rattle.outline_rules.specs.declared.fault.NotesFault.{NotesFault}
use Rattle.outline_rules.specs.declared.fault.NotesFault.TheVariants.{Header, Line, NodeOrder, DoubleNode, NumberTooWide, Truncated, Trailing}
use Rattle.outline_rules.specs.NoteLists.{NotesParts, notes_of, node_parts}
use Rattle.outline_rules.specs.Texts.{line_words, line_numbers, heading, note_lines}
use Rattle.outline_rules.specs.Forms.{read_line}

abbrev pub is_wide : NoteLine → Bool
is_wide l = list_any too_wide (line_numbers l)

abbrev pub section_of : NoteLine → Section
section_of (Node n) = Nodes
section_of (Note k) = Notes

-- whether a line of the section may come next: nodes precede notes
abbrev pub is_section_allowed : NotesParts → Section → Bool
is_section_allowed ns Nodes = length ns.notes == 0
is_section_allowed ns Notes = true

-- whether all numbers are below the count
abbrev pub are_below : ℕ → List ℕ → Bool
are_below count ks = list_all (λ k. nat_lt k count) ks

-- the nodes that the line names
abbrev pub nodes_named : NoteLine → List ℕ
nodes_named (Node n) = node_parts n
nodes_named (Note k) = k ∷ []

-- whether each node that the line names precedes it
abbrev pub names_earlier : NotesParts → NoteLine → Bool
names_earlier ns l = are_below (length ns.nodes) (nodes_named l)

-- whether two nodes are equal
abbrev pub same_node : NoteNode → NoteNode → Bool
same_node False False = true
same_node True True = true
same_node (Branch k x y) (Branch l z w) = k == l && (x == z && y == w)
same_node m n = false

-- whether the line has a node that equals an earlier one
abbrev pub occurs_already : NotesParts → NoteLine → Bool
occurs_already ns (Node n) = list_any (same_node n) ns.nodes
occurs_already ns (Note k) = false

-- the notes with an additional line
abbrev pub with_line : NotesParts → NoteLine → NotesParts
with_line ns (Node n) = notes_of (ns.nodes ++ n ∷ []) ns.notes
with_line ns (Note k) = notes_of ns.nodes (ns.notes ++ k ∷ [])

-- the faults of a text by their names; no line has a fault besides them
abbrev pub fault_names : FaultNames NotesFault
fault_names = record { header = Header; line = Line; wide = NumberTooWide; order = NodeOrder; double = DoubleNode; last = Line; truncated = Truncated; trailing = Trailing }

-- the lines of nodes and notes as a format of numbered lines
abbrev pub note_format : LineFormat NoteLine NotesParts NotesParts NotesFault
note_format = record {
  faults = fault_names;
  words = line_words;
  read = read_line;
  numbers = line_numbers;
  is_allowed = λ ns l. is_section_allowed ns (section_of l);
  names_earlier = names_earlier;
  occurs_already = occurs_already;
  last_test = λ l. true;
  with_line = with_line;
  lines = note_lines;
  value = λ ns. ns;
}

-- the fault of line n after the lines of ns: it has no form, or its content has a fault
abbrev pub line_fault_after : NotesParts → ℕ → Option NoteLine → Option NotesFault
line_fault_after ns n o = fault_after note_format ns n o

-- notes, or the first fault of a text
abbrev pub Answer : Type 0
Answer = Result NotesParts NotesFault

abbrev pub no_lines : NotesParts
no_lines = notes_of [] []

-- the answer for the lines from line n on, after the lines of ns
abbrev pub notes_from : NotesParts → ℕ → List (List ℕ) → Answer
notes_from ns n parts = lines_from note_format ns n parts

-- the answer for a first line, which must be the heading, and the parts after it
abbrev pub after_heading : List ℕ → List (List ℕ) → Answer
after_heading line parts = if bytes_eq line heading then notes_from no_lines 2 parts else Err Header

abbrev pub all_from : List (List ℕ) → Answer
all_from parts = first_then fault_names after_heading parts

-- the answer for a text
abbrev pub answer_of : List ℕ → Answer
answer_of bytes = all_from (parts_of bytes)

-- the first fault of a text
abbrev pub notes_fault : List ℕ → Option NotesFault
notes_fault bytes = result_err (answer_of bytes)
