use Rattle.tool_programs.specs.Working.FileVariables.{next_unnamed}
use Rattle.tool_programs.proofs.oneloop.OneLoopCommandFileCommand.file_reply.Goals as goal

pub program_reply-requires-clause-unnamed : goal.program_reply-requires-clause-unnamed
program_reply-requires-clause-unnamed c = next_unnamed c.requires.read.0 c.args.file.now c.requires.read.1
