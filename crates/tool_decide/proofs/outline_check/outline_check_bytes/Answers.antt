use Rattle.tool_decide.proofs.outline_check.outline_check_bytes.Goals as goal

pub returns-clause-readings : goal.returns-clause-readings
returns-clause-readings c f a reading reads is stated = c.in_ok-reply.ensures.readings f a reading reads is stated
