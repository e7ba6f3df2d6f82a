-- Nodes of notes that hold where diagrams are true.
use Rattle.std.specs.Prelude.{◌≡◌, ◌⊎◌, ◌<◌, [], ◌∷◌, ◌++◌, ℕ, false, List, length, map, drop, Some, slice_get, slice_index_or}
use Rattle.kat_model.specs.Members.{Has, HasNoDoubles}
use Rattle.kat_model.specs.Steps.{Atom}
use Rattle.outline_rules.specs.StepFunctions.{StepDiagramsParts, step_value, IsStepId}
use Rattle.outline_rules.specs.declared.notes.NoteNode.{NoteNode}
use Rattle.outline_rules.specs.NoteLists.{NotesParts, node_parts, holds_at, note_holds}
use Rattle.outline_rules.specs.Follows.{HasTests}
use Rattle.hoare_outlines.specs.Working.AtomSets.{AtomSet, IsSetId}
use Rattle.hoare_outlines.specs.declared.noting.NodeWriter.{NodeWriter}

-- whether the atom is in the set does not depend on its first k values
abbrev pub DependsFrom : ℕ → ℕ → AtomSet → Type 0
DependsFrom tests k X = (atom other : Atom) → length atom ≡ tests → length other ≡ tests → drop k atom ≡ drop k other → X atom ≡ X other

-- the id is such a set
pub record IsSetFrom (d : StepDiagramsParts) (k id : ℕ) : Type 0 where
  pub set : AtomSet
  pub is_set : IsSetId d id set
  pub depends : DependsFrom d.tests k set

-- the node holds where the diagram is true
pub record IsNodeFor (d : StepDiagramsParts) (nodes : List NoteNode) (id node : ℕ) : Type 0 where
  pub is_id : IsStepId d id
  pub is_node : node < length nodes
  pub holds : (atom : Atom) → length atom ≡ d.tests → holds_at nodes node atom ≡ step_value d id atom atom

-- the nodes keep the rules of notes
pub record AreNoteNodes (tests : ℕ) (nodes : List NoteNode) : Type 0 where
  pub ordered : (k : ℕ) (node : NoteNode) → slice_get nodes k ≡ Some node → (part : ℕ) → Has (node_parts node) part → part < k
  pub once : HasNoDoubles nodes
  pub in_range : HasTests tests nodes

-- each stored node holds where its diagram is true
abbrev pub AreKnown : StepDiagramsParts → List NoteNode → List (ℕ × ℕ) → Type 0
AreKnown d nodes [] = Unit {0}
AreKnown d nodes (entry ∷ known) = IsNodeFor d nodes entry.0 entry.1 × AreKnown d nodes known

pub record IsNodeWriter (d : StepDiagramsParts) (w : NodeWriter) : Type 0 where
  pub nodes : AreNoteNodes d.tests w.nodes.keys
  pub known : AreKnown d w.nodes.keys w.known.entries

-- the nodes are unchanged, or the node was appended
abbrev pub AddsNode : List NoteNode → List NoteNode → NoteNode → Type 0
AddsNode old new node = (new ≡ old) ⊎ (new ≡ old ++ node ∷ [])

-- nodes were appended
abbrev pub AddsNodes : List NoteNode → List NoteNode → Type 0
AddsNodes old new = (more : List NoteNode) × (new ≡ old ++ more)

-- the ids are sets
abbrev pub AreSets : StepDiagramsParts → List ℕ → Type 0
AreSets d ids = (id : ℕ) → Has ids id → (X : AtomSet) × IsSetId d id X

-- the nodes hold where the diagrams are true, in order
abbrev pub AreNodesFor : StepDiagramsParts → List NoteNode → List ℕ → List ℕ → Type 0
AreNodesFor d nodes [] [] = Unit {0}
AreNodesFor d nodes [] (n ∷ ns) = ⊥
AreNodesFor d nodes (id ∷ ids) [] = ⊥
AreNodesFor d nodes (id ∷ ids) (n ∷ ns) = IsNodeFor d nodes id n × AreNodesFor d nodes ids ns

-- the notes are the sets, in order
pub record NotesSets (d : StepDiagramsParts) (ids : List ℕ) (ns : NotesParts) : Type 0 where
  pub tests : HasTests d.tests ns.nodes
  pub count : length ns.notes ≡ length ids
  pub holds : (place : ℕ) (atom : Atom) → length atom ≡ d.tests → note_holds ns place atom ≡ slice_index_or (map (λ id. step_value d id atom atom) ids) place false
