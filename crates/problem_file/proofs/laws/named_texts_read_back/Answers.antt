use Rattle.problem_file.proofs.PlainReadings.{named_reads_back}
use Rattle.problem_file.proofs.laws.named_texts_read_back.Goals as goal

pub returns : goal.returns
returns c names q printable = named_reads_back names q printable
