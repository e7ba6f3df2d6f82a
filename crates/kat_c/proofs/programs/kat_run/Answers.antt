use Rattle.tool_programs.specs.Running.{RunHeadline, RunReply}
use Rattle.kat_c.specs.CallEnds.{RefusesWords}
use Rattle.kat_c.proofs.Replies.{given_reply}
use Rattle.kat_c.proofs.programs.kat_run.Goals as goal

pub returns-clause-headline : goal.returns-clause-headline
returns-clause-headline c f reads utf8 also = given_reply (RunHeadline f c.args.prog.now c.args.store.now c.args.turns) c.run_reply.result _ (c.run_reply.ensures.headline f reads utf8 also) c.give.ensures

pub returns-clause-reply : goal.returns-clause-reply
returns-clause-reply c utf8 also = given_reply (RunReply c.args.text.now c.args.prog.now c.args.store.now c.args.turns) c.run_reply.result _ (c.run_reply.ensures.reply utf8 also) c.give.ensures

pub returns-clause-words : goal.returns-clause-words
returns-clause-words c not = given_reply RefusesWords c.run_reply.result _ (c.run_reply.ensures.words not) c.give.ensures
