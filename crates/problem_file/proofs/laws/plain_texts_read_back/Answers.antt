use Rattle.problem_file.proofs.PlainReadings.{reads_back}
use Rattle.problem_file.proofs.laws.plain_texts_read_back.Goals as goal

pub returns : goal.returns
returns c q printable = reads_back q printable
