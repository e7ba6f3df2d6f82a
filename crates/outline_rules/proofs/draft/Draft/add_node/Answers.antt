use Rattle.std.proofs.Common.{◌≡◌, ap, ◌++◌, ◌∷◌, [], List}
use Rattle.kat_model.specs.Members.{SameMembers}
use Rattle.outline_rules.specs.declared.notes.NoteNode.{NoteNode}
use Rattle.outline_rules.specs.declared.line.NoteLine.TheVariants.{Node}
use Rattle.outline_rules.specs.declared.draft.Draft.{Draft}
use Rattle.outline_rules.specs.NoteLists.{notes_of}
use Rattle.outline_rules.specs.Working.Readings.{draft_parts}
use Rattle.line_format.proofs.KnownLines.{old_known, new_unknown, known_pushed}
use Rattle.outline_rules.proofs.Drafts.{node_double, node_passes, added}
use Rattle.outline_rules.proofs.draft.Draft.add_node.Goals as goal

pub returns-then-not-is_new : goal.returns-then-not-is_new
returns-then-not-is_new c =
    node_double c.args.self.now c.args.number c.args.node c.requires.draft c.requires.tested
    (old_known c.node_order.ensures.apart c.node_order.ensures.own c.args.node c.args.self.now.known.keys c.in_ok-is_new.is_new c.in_ok-is_new.ensures.added c.if-not-is_new.true)

pub returns : goal.returns
returns c =
    let old : Draft = c.args.self.now in
    let node : NoteNode = c.args.node in
    let new : Draft = record { nodes = c.push.new.self; notes = old.notes; known = c.insert.new.self } in
    let items = c.in_ok-push.ensures.items in
    let is : draft_parts new ≡ notes_of (old.nodes.items ++ node ∷ []) old.notes.items = ap (λ (l : List NoteNode). notes_of l old.notes.items) items in
    let known : SameMembers c.insert.new.self.keys c.push.new.self.items =
    rw (c.in_ok-is_new.ensures.keys, items) (known_pushed c.node_order.ensures.apart old.known.keys old.nodes.items node c.requires.draft.nodes) in
    let passes = node_passes old c.args.number node c.requires.draft c.requires.tested (new_unknown c.node_order.ensures.apart c.node_order.ensures.own node old.known.keys c.in_ok-is_new.is_new c.in_ok-is_new.ensures.added c.if-not-is_new.false) in
    added old c.args.number (Node node) new c.requires.draft passes is known
