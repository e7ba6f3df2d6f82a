use Rattle.kat_tool.proofs.command_reply.Goals as goal

pub returns-in-Check-clause-replied : goal.returns-in-Check-clause-replied
returns-in-Check-clause-replied g c = rw c.in-Check.is c.reply_to_files.ensures.replied

pub returns-in-Replay-clause-replied : goal.returns-in-Replay-clause-replied
returns-in-Replay-clause-replied g c = rw c.in-Replay.is c.reply_to_files-in-Replay.ensures.replied

pub returns-in-Explain-clause-replied : goal.returns-in-Explain-clause-replied
returns-in-Explain-clause-replied g c = rw c.in-Explain.is c.reply_to_files-in-Explain.ensures.replied

pub returns-in-Try-clause-replied : goal.returns-in-Try-clause-replied
returns-in-Try-clause-replied g c = rw c.in-Try.is c.reply_to_file-in-Try.ensures.replied

pub returns-in-TryWith-clause-replied : goal.returns-in-TryWith-clause-replied
returns-in-TryWith-clause-replied g c = rw c.in-TryWith.is c.reply_to_files-in-TryWith.ensures.replied

pub returns-in-Run-clause-replied : goal.returns-in-Run-clause-replied
returns-in-Run-clause-replied g c = rw c.in-Run.is c.reply_to_file-in-Run.ensures.replied

pub returns-in-OneLoop-clause-replied : goal.returns-in-OneLoop-clause-replied
returns-in-OneLoop-clause-replied g c = rw c.in-OneLoop.is c.reply_to_file-in-OneLoop.ensures.replied

pub returns-in-Chain-clause-replied : goal.returns-in-Chain-clause-replied
returns-in-Chain-clause-replied g c = rw c.in-Chain.is c.reply_to_files-in-Chain.ensures.replied

pub returns-in-Optimise-clause-replied : goal.returns-in-Optimise-clause-replied
returns-in-Optimise-clause-replied g c = rw c.in-Optimise.is c.reply_to_file-in-Optimise.ensures.replied

pub returns-in-OutlineCheck-clause-replied : goal.returns-in-OutlineCheck-clause-replied
returns-in-OutlineCheck-clause-replied g c = rw c.in-OutlineCheck.is c.reply_to_files-in-OutlineCheck.ensures.replied

pub returns-in-Ok-clause-replied : goal.returns-in-Ok-clause-replied
returns-in-Ok-clause-replied g c = rw c.in-Bench.is c.in-Ok.ensures
