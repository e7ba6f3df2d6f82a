use Rattle.tool_decide.specs.Optimise.{OptimiseHeadline, OptimiseReply}
use Rattle.kat_c.specs.CallEnds.{RefusesWords}
use Rattle.kat_c.proofs.Replies.{given_reply}
use Rattle.kat_c.proofs.programs.kat_optimise.Goals as goal

pub returns-clause-headline : goal.returns-clause-headline
returns-clause-headline c f reads utf8 = given_reply (OptimiseHeadline f c.args.prog.now c.args.turns) c.optimise_reply.result _ (c.optimise_reply.ensures.headline f reads utf8) c.give.ensures

pub returns-clause-reply : goal.returns-clause-reply
returns-clause-reply c utf8 = given_reply (OptimiseReply c.args.text.now c.args.prog.now c.args.turns) c.optimise_reply.result _ (c.optimise_reply.ensures.reply utf8) c.give.ensures

pub returns-clause-words : goal.returns-clause-words
returns-clause-words c not = given_reply RefusesWords c.optimise_reply.result _ (c.optimise_reply.ensures.words not) c.give.ensures
