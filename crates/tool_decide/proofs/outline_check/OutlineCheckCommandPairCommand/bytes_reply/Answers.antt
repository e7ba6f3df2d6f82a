use Rattle.tool_decide.proofs.outline_check.OutlineCheckCommandPairCommand.bytes_reply.Goals as goal

pub check_reply-requires-clause-simple : goal.check_reply-requires-clause-simple
check_reply-requires-clause-simple c = c.requires.1.task.simple

pub check_reply-requires-clause-triple : goal.check_reply-requires-clause-triple
check_reply-requires-clause-triple c = c.requires.1.sides
