use Rattle.problem_file.proofs.ProgramReadings.{triples_read_back}
use Rattle.problem_file.proofs.laws.plain_triples_read_back.Goals as goal

pub returns : goal.returns
returns c w v b p d printable = triples_read_back w v b p d printable
