use Rattle.problem_file.proofs.ProgramReadings.{program_reads_back}
use Rattle.problem_file.proofs.laws.named_programs_read_back.Goals as goal

pub returns : goal.returns
returns c names w v name p printable = program_reads_back names w v name p printable
