use Rattle.problem_file.proofs.PlainReadings.{commented_reads_back}
use Rattle.problem_file.proofs.laws.commented_texts_read_back.Goals as goal

pub returns : goal.returns
returns c names d q printable = commented_reads_back names d q printable
