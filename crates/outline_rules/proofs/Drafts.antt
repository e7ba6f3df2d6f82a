-- Drafts after a line is added.
use Rattle.std.proofs.Common.{◌≡◌, ℕ, Some, None, refl, sym, subst}
use Rattle.kat_model.specs.Members.{Has, SameMembers}
use Rattle.line_format.specs.NumberedLines.{fault_of}
use Rattle.line_format.proofs.KnownLines.{any_same, any_lacks}
use Rattle.line_format.proofs.LineTests.{Passes, passes_faultless, double_fault}
use Rattle.outline_rules.specs.declared.notes.NoteNode.{NoteNode}
use Rattle.outline_rules.specs.declared.line.NoteLine.{NoteLine}
use Rattle.outline_rules.specs.declared.line.NoteLine.TheVariants.{Node, Note}
use Rattle.outline_rules.specs.declared.draft.Draft.{Draft}
use Rattle.outline_rules.specs.declared.fault.NotesFault.TheVariants.{DoubleNode}
use Rattle.outline_rules.specs.NoteLists.{AreNotes}
use Rattle.outline_rules.specs.Faults.{same_node, with_line, note_format}
use Rattle.outline_rules.specs.Working.Readings.{draft_parts, IsDraft, MayBeAdded}
use Rattle.outline_rules.proofs.KnownNodes.{same_node_equal, node_same_itself}
use Rattle.outline_rules.proofs.Growth.{notes_grown}

module _ (d : Draft) (n : ℕ) where
  -- a node that is known already is a double node
  pub node_double : (node : NoteNode) → IsDraft d → MayBeAdded d (Node node) → Has d.known.keys node → fault_of note_format (draft_parts d) n (Node node) ≡ Some (DoubleNode n)
  node_double node draft may known =
      double_fault note_format (draft_parts d) n (Node node) may.allowed may.narrow may.earlier (any_same same_node same_node_equal node_same_itself d.nodes.items node ((draft.nodes node).0 known))

  -- an unknown node passes
  pub node_passes : (node : NoteNode) → IsDraft d → MayBeAdded d (Node node) → (Has d.known.keys node → ⊥) → Passes note_format (draft_parts d) (Node node)
  node_passes node draft may new =
      record {
        allowed = may.allowed;
        narrow = may.narrow;
        earlier = may.earlier;
        new = any_lacks same_node same_node_equal node_same_itself d.nodes.items node (λ h. new ((draft.nodes node).1 h));
        last = refl;
      }

  -- a note passes
  pub note_passes : (k : ℕ) → MayBeAdded d (Note k) → Passes note_format (draft_parts d) (Note k)
  note_passes k may = record { allowed = may.allowed; narrow = may.narrow; earlier = may.earlier; new = refl; last = refl }

  -- a line that passes extends the draft
  pub added : (l : NoteLine) (new : Draft) → IsDraft d → Passes note_format (draft_parts d) l → draft_parts new ≡ with_line (draft_parts d) l → SameMembers new.known.keys new.nodes.items
      → IsDraft new × ((m : NoteLine) × (◌≡◌ {A = _} (Some l) (Some m)) × (fault_of note_format (draft_parts d) n m ≡ None) × (draft_parts new ≡ with_line (draft_parts d) m))
  added l new draft passes is nodes = (
    record { notes = subst AreNotes (sym is) (notes_grown (draft_parts d) l draft.notes passes); nodes = nodes },
    (l, refl, passes_faultless note_format (draft_parts d) n l passes, is),
  )
