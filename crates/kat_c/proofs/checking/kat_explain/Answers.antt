use Rattle.tool_explain.specs.Explain.{ExplainHeadline, ExplainReply}
use Rattle.kat_c.proofs.Replies.{given_reply}
use Rattle.kat_c.proofs.checking.kat_explain.Goals as goal

pub returns-clause-headline : goal.returns-clause-headline
returns-clause-headline c f a reads is = given_reply (ExplainHeadline c.args.evidence.now f a) c.explain_bytes.result _ (c.explain_bytes.ensures.headline f a reads is) c.give.ensures

pub returns-clause-reply : goal.returns-clause-reply
returns-clause-reply c = given_reply (ExplainReply c.args.text.now c.args.evidence.now) c.explain_bytes.result _ c.explain_bytes.ensures.reply c.give.ensures
