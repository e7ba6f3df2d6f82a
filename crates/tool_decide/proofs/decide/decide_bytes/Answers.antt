use Rattle.tool_decide.proofs.PlainTexts.{plain_headline}
use Rattle.tool_decide.proofs.PlainPrograms.{programs_headline, triple_headline}
use Rattle.tool_decide.proofs.decide.decide_bytes.Goals as goal

pub returns-clause-plain : goal.returns-clause-plain
returns-clause-plain c q printable same = plain_headline c.args.text.now c.in_ok-reply.reply.status c.in_ok-reply.reply.output.items q printable same c.in_ok-reply.ensures.replies

pub returns-clause-programs : goal.returns-clause-programs
returns-clause-programs c w v p q printable same =
    programs_headline c.args.text.now w v c.in_ok-reply.reply.status c.in_ok-reply.reply.output.items p q printable same c.in_ok-reply.ensures.replies

pub returns-clause-triples : goal.returns-clause-triples
returns-clause-triples c w v b p d printable same =
    triple_headline c.args.text.now w v c.in_ok-reply.reply.status c.in_ok-reply.reply.output.items b p d printable same c.in_ok-reply.ensures.replies

pub returns-clause-readings : goal.returns-clause-readings
returns-clause-readings c f a reading reads is stated = c.in_ok-reply.ensures.readings f a reading reads is stated
