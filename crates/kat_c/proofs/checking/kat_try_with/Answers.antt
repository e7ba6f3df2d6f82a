use Rattle.tool_try.specs.TryWith.{TryWithHeadline, TryWithReply}
use Rattle.kat_c.proofs.Replies.{given_reply}
use Rattle.kat_c.proofs.checking.kat_try_with.Goals as goal

pub returns-clause-headline : goal.returns-clause-headline
returns-clause-headline c f a reads concrete is =
    given_reply (TryWithHeadline c.args.turns c.args.evidence.now f a) c.try_with_bytes.result _ (c.try_with_bytes.ensures.headline f a reads concrete is) c.give.ensures

pub returns-clause-reply : goal.returns-clause-reply
returns-clause-reply c = given_reply (TryWithReply c.args.turns c.args.text.now c.args.evidence.now) c.try_with_bytes.result _ c.try_with_bytes.ensures.reply c.give.ensures
