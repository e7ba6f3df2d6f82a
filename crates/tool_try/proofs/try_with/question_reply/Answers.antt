use Rattle.problem_file.proofs.NumberedStates.{are_in_ranges}
use Rattle.tool_try.proofs.try_with.question_reply.Goals as goal

pub evidence_reply-requires-clause-concrete : goal.evidence_reply-requires-clause-concrete
evidence_reply-requires-clause-concrete c = c.requires.1.concrete

pub evidence_reply-requires-clause-numbered : goal.evidence_reply-requires-clause-numbered
evidence_reply-requires-clause-numbered c = are_in_ranges c.requires.0 c.args.question.now.file c.requires.1.reads
