-- The parts of notes, the rules that they keep, and the sets of atoms that they denote.
use Rattle.std.specs.Prelude.{◌≡◌, ◌<◌, ℕ, Bool, false, true, if◌then◌else◌, List, [], ◌∷◌, map, length, Some, slice_get, slice_index_or}
use Rattle.kat_model.specs.Members.{Has, HasNoDoubles}
use Rattle.kat_model.specs.CourseOfValues.{course_of_values}
use Rattle.kat_model.specs.Steps.{Atom}
use Rattle.outline_rules.specs.declared.notes.NoteNode.{NoteNode}
use Rattle.outline_rules.specs.declared.notes.NoteNode.TheVariants.{False, True, Branch}

pub record NotesParts : Type 0 where
  pub nodes : List NoteNode
  pub notes : List ℕ

-- the notes with these parts
abbrev pub notes_of : List NoteNode → List ℕ → NotesParts
notes_of nodes notes = record { nodes = nodes; notes = notes }

-- the nodes that a node names
abbrev pub node_parts : NoteNode → List ℕ
node_parts False = []
node_parts True = []
node_parts (Branch test low high) = low ∷ high ∷ []

-- a branch names only earlier nodes, no node occurs twice, and each note names a node
pub record AreNotes (ns : NotesParts) : Type 0 where
  pub ordered : (k : ℕ) (node : NoteNode) → slice_get ns.nodes k ≡ Some node → (part : ℕ) → Has (node_parts node) part → part < k
  pub once : HasNoDoubles ns.nodes
  pub notes : (k : ℕ) → Has ns.notes k → k < length ns.nodes

-- whether a node holds at an atom, given the values of the earlier nodes there
abbrev pub node_holds : Atom → List Bool → NoteNode → Bool
node_holds atom earlier False = false
node_holds atom earlier True = true
node_holds atom earlier (Branch test low high) = slice_index_or earlier (if slice_index_or atom test false then high else low) false

-- whether the node with this number holds at an atom
abbrev pub holds_at : List NoteNode → ℕ → Atom → Bool
holds_at nodes k atom = slice_index_or (course_of_values (node_holds atom) nodes) k false

-- whether the note at a place holds at an atom
abbrev pub note_holds : NotesParts → ℕ → Atom → Bool
note_holds ns place atom = slice_index_or (map (λ k. holds_at ns.nodes k atom) ns.notes) place false
