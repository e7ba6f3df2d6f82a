use Rattle.tool_check.proofs.chain.chain_bytes.Goals as goal

pub returns-clause-readings : goal.returns-clause-readings
returns-clause-readings c f a reading reads is stated = c.in_ok-reply.ensures.readings f a reading reads is stated
