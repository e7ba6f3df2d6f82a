use Rattle.problem_file.proofs.ProgramReadings.{programs_read_back}
use Rattle.problem_file.proofs.laws.plain_programs_read_back.Goals as goal

pub returns : goal.returns
returns c w v p q printable = programs_read_back w v p q printable
