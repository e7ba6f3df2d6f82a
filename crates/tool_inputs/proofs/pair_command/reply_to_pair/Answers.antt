use Rattle.tool_inputs.proofs.ReplySpecs.{into_replied}
use Rattle.tool_inputs.proofs.pair_command.reply_to_pair.Goals as goal

pub returns : goal.returns
returns g c =
    let replies = g.C.PairCommand.replies c.args.command.now c.args.text.now c.args.bytes.now in
    into_replied replies replies (λ status output r. r) c.texts_reply.result c.into_reply.result c.into_reply.ensures c.texts_reply.ensures
