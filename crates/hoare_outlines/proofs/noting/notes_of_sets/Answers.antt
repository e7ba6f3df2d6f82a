use Rattle.std.proofs.Common.{List, sym, subst}
use Rattle.outline_rules.specs.declared.notes.NoteNode.{NoteNode}
use Rattle.outline_rules.specs.NoteLists.{NotesParts, AreNotes, notes_of}
use Rattle.hoare_outlines.specs.Working.Noted.{NotesSets}
use Rattle.hoare_outlines.proofs.NodesFor.{are_notes, notes_sets, notes_older}
use Rattle.hoare_outlines.proofs.noting.notes_of_sets.Goals as goal

pub of_parts-requires : goal.of_parts-requires
of_parts-requires c =
    let ns = c.in_ok-notes.notes.items in
    subst (λ (l : List NoteNode). AreNotes (notes_of l ns)) (sym c.in_ok-nodes.ensures)
    (are_notes c.nodes_for.new.diagrams c.nodes_for.new.writer.nodes.keys c.args.sets.now ns c.in_ok-notes.ensures.writer.nodes c.in_ok-notes.ensures.nodes)

pub returns : goal.returns
returns c =
    let old = c.args.diagrams.now in
    let new = c.nodes_for.new.diagrams in
    let keys = c.nodes_for.new.writer.nodes.keys in
    let sets = c.args.sets.now in
    let ns = c.in_ok-notes.notes.items in
    let own = notes_older old new sets (notes_of keys ns) c.in_ok-notes.ensures.kept c.requires.sets (notes_sets new keys sets ns c.in_ok-notes.ensures.writer.nodes c.in_ok-notes.ensures.nodes) in
    record { notes = subst (λ (n : NotesParts). NotesSets old sets n) (sym c.of_parts.ensures) (subst (λ (l : List NoteNode). NotesSets old sets (notes_of l ns)) (sym c.in_ok-nodes.ensures) own) }
