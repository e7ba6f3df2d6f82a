use Rattle.std.proofs.Common.{codes, sym}
use Rattle.optimiser_steps.proofs.ProgramRanges.{program_in_range}
use Rattle.tests_programs.proofs.optimising.is_optimised_in.Goals as goal

pub optimise-requires : goal.optimise-requires
optimise-requires c = program_in_range c.args.file.now (codes "L") c.in-Some.prog.now c.requires (sym c.in-Some.ensures)
