use Rattle.walk_under.proofs.FewMerged.{merged_few}
use Rattle.walk_under.proofs.laws.merged_pairs_are_few.Goals as goal

pub returns : goal.returns
returns c shorts q es done walk pairs m differ somewhere = merged_few shorts q es done walk pairs m differ somewhere
