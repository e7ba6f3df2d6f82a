use Rattle.std.proofs.Common.{◌≡◌, ℕ, ap, ◌++◌, ◌∷◌, [], List}
use Rattle.outline_rules.specs.declared.line.NoteLine.TheVariants.{Note}
use Rattle.outline_rules.specs.declared.draft.Draft.{Draft}
use Rattle.outline_rules.specs.NoteLists.{notes_of}
use Rattle.outline_rules.specs.Working.Readings.{draft_parts}
use Rattle.outline_rules.proofs.Drafts.{note_passes, added}
use Rattle.outline_rules.proofs.draft.Draft.add_note.Goals as goal

pub returns : goal.returns
returns c =
    let old : Draft = c.args.self.now in
    let new : Draft = record { nodes = old.nodes; notes = c.push.new.self; known = old.known } in
    let is : draft_parts new ≡ notes_of old.nodes.items (old.notes.items ++ c.args.node ∷ []) = ap (λ (l : List ℕ). notes_of old.nodes.items l) c.in_ok-push.ensures.items in
    added old c.args.number (Note c.args.node) new c.requires.draft (note_passes old c.args.number c.args.node c.requires.tested) is c.requires.draft.nodes
