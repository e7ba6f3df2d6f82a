use Rattle.std.proofs.Common.{inr, refl, sym}
use Rattle.optimiser_steps.proofs.ProgramRanges.{program_in_range}
use Rattle.tool_decide.proofs.optimise.OptimiseCommandFileCommand.file_reply.Goals as goal

pub log_of-requires : goal.log_of-requires
log_of-requires c = program_in_range c.args.file.now c.args.self.now.prog.now c.in-Some.prog.now c.requires.numbered (sym c.in-Some.ensures)

pub returns : goal.returns
returns c = inr (c.in-Some.prog.now, sym c.in-Some.ensures, refl, c.in_ok-log_of.ensures)
