use Rattle.tool_check.proofs.PlainPrograms.{programs_checked, triple_checked}
use Rattle.tool_check.proofs.check.check_bytes.Goals as goal

pub returns-clause-programs : goal.returns-clause-programs
returns-clause-programs c w v p q printable same =
    programs_checked c.args.text.now w v c.in_ok-reply.reply.status c.in_ok-reply.reply.output.items p q printable same c.args.evidence.now c.in_ok-reply.ensures.replies

pub returns-clause-triples : goal.returns-clause-triples
returns-clause-triples c w v b p d printable same =
    triple_checked c.args.text.now w v c.in_ok-reply.reply.status c.in_ok-reply.reply.output.items b p d printable same c.args.evidence.now c.in_ok-reply.ensures.replies

pub returns-clause-readings : goal.returns-clause-readings
returns-clause-readings c f a reading reads is stated = c.in_ok-reply.ensures.readings f a reading reads is stated
