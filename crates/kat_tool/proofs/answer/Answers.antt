use Rattle.std.proofs.Common.{sym}
use Rattle.tool_inputs.specs.Steps.{shelf_use}
use Rattle.kat_tool.proofs.Calls.{words_replied}
use Rattle.kat_tool.proofs.answer.Goals as goal

pub returns-clause-replies : goal.returns-clause-replies
returns-clause-replies g c =
    let s = shelf_use (g.S.Shelf.content c.args.shelf.now) (g.S.Shelf.faults c.args.shelf.now) (g.S.Shelf.faults c.command_reply.new.shelf) (g.S.Shelf.last_failed c.command_reply.new.shelf) in
    words_replied s c.args.words.now _ (sym c.in-Some.ensures) c.command_reply.result c.into_reply.result c.into_reply.ensures c.command_reply.ensures.replied c.command_reply.ensures.counts
