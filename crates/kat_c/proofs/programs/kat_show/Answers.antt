use Rattle.tool_programs.specs.Show.{ShowHeadline, ShowReply}
use Rattle.kat_c.proofs.Replies.{given_reply}
use Rattle.kat_c.proofs.programs.kat_show.Goals as goal

pub returns-clause-headline : goal.returns-clause-headline
returns-clause-headline c = given_reply (ShowHeadline c.args.text.now) c.show_bytes.result _ c.show_bytes.ensures.headline c.give.ensures

pub returns-clause-reply : goal.returns-clause-reply
returns-clause-reply c = given_reply (ShowReply c.args.text.now) c.show_bytes.result _ c.show_bytes.ensures.reply c.give.ensures
