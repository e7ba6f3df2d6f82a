use Rattle.tool_inputs.proofs.ReplySpecs.{into_replied}
use Rattle.tool_inputs.proofs.file_command.reply_to_bytes.Goals as goal

pub returns : goal.returns
returns g c =
    let replies = g.C.FileCommand.replies c.args.command.now c.args.text.now in
    into_replied replies replies (λ status output r. r) c.text_reply.result c.into_reply.result c.into_reply.ensures c.text_reply.ensures
