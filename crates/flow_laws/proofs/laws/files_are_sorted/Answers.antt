use Rattle.flow_laws.proofs.SortedFiles.{flow_pairs_sorted}
use Rattle.flow_laws.proofs.laws.files_are_sorted.Goals as goal

pub returns : goal.returns
returns c = flow_pairs_sorted
