use Rattle.tool_try.specs.Try.{TryHeadline, TryReply}
use Rattle.kat_c.proofs.Replies.{given_reply}
use Rattle.kat_c.proofs.checking.kat_try.Goals as goal

pub returns-clause-headline : goal.returns-clause-headline
returns-clause-headline c f reads = given_reply (TryHeadline f c.args.turns) c.try_bytes.result _ (c.try_bytes.ensures.headline f reads) c.give.ensures

pub returns-clause-reply : goal.returns-clause-reply
returns-clause-reply c = given_reply (TryReply c.args.text.now c.args.turns) c.try_bytes.result _ c.try_bytes.ensures.reply c.give.ensures
