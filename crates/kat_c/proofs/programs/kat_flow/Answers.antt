use Rattle.tool_flow.specs.Flow.{FlowHeadline, FlowReply}
use Rattle.kat_c.proofs.Replies.{given_reply}
use Rattle.kat_c.proofs.programs.kat_flow.Goals as goal

pub returns-clause-headline : goal.returns-clause-headline
returns-clause-headline c = given_reply (FlowHeadline c.args.text.now) c.flow_bytes.result _ c.flow_bytes.ensures.headline c.give.ensures

pub returns-clause-reply : goal.returns-clause-reply
returns-clause-reply c = given_reply (FlowReply c.args.text.now) c.flow_bytes.result _ c.flow_bytes.ensures.reply c.give.ensures
