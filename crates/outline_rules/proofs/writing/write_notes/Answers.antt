use Rattle.outline_rules.proofs.Written.{notes_written}
use Rattle.outline_rules.proofs.writing.write_notes.Goals as goal

pub returns : goal.returns
returns c =
    notes_written _ _ _ _ _ _ _ c.args.notes.now c.new-out.ensures.items c.nodes.ensures.value c.notes.ensures.value
    c.in_ok-put_line.ensures c.in_ok-put_nodes.ensures c.in_ok-put_notes.ensures c.in_ok-put_line-2.ensures
