use Rattle.tool_decide.specs.Batch.{BatchHeadline, BatchReply}
use Rattle.kat_c.proofs.Replies.{given_reply}
use Rattle.kat_c.proofs.deciding.kat_batch.Goals as goal

pub returns-clause-headline : goal.returns-clause-headline
returns-clause-headline c f more reads = given_reply (BatchHeadline f more) c.batch_bytes.result _ (c.batch_bytes.ensures.headline f more reads) c.give.ensures

pub returns-clause-reply : goal.returns-clause-reply
returns-clause-reply c = given_reply (BatchReply c.args.text.now) c.batch_bytes.result _ c.batch_bytes.ensures.reply c.give.ensures
