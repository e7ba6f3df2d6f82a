use Rattle.tool_check.specs.Replay.{ReplayHeadline, ReplayReply}
use Rattle.kat_c.proofs.Replies.{given_reply}
use Rattle.kat_c.proofs.checking.kat_replay.Goals as goal

pub returns-clause-headline : goal.returns-clause-headline
returns-clause-headline c q poses = given_reply (ReplayHeadline c.args.evidence.now q) c.replay_bytes.result _ (c.replay_bytes.ensures.headline q poses) c.give.ensures

pub returns-clause-reply : goal.returns-clause-reply
returns-clause-reply c = given_reply (ReplayReply c.args.text.now c.args.evidence.now) c.replay_bytes.result _ c.replay_bytes.ensures.reply c.give.ensures
