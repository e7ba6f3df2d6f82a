use Rattle.problem_file.proofs.ScannedFiles.{files_are_scanned}
use Rattle.problem_file.proofs.laws.files_are_scanned.Goals as goal

pub returns : goal.returns
returns c = files_are_scanned
