use Rattle.tool_programs.specs.Gkat.{GkatHeadline, GkatReply}
use Rattle.kat_c.proofs.Replies.{given_reply}
use Rattle.kat_c.proofs.programs.kat_gkat.Goals as goal

pub returns-clause-headline : goal.returns-clause-headline
returns-clause-headline c = given_reply (GkatHeadline c.args.text.now) c.gkat_bytes.result _ c.gkat_bytes.ensures.headline c.give.ensures

pub returns-clause-reply : goal.returns-clause-reply
returns-clause-reply c = given_reply (GkatReply c.args.text.now) c.gkat_bytes.result _ c.gkat_bytes.ensures.reply c.give.ensures
